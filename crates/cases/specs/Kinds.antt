-- What a case of document 01 says, and that it is so. Assumes nothing.
use Rattle.std.specs.Prelude.{ℕ, ◌≡◌, List, [], ◌∷◌, length}
use Rattle.lists.specs.Lists.{each_below, only_if}
use Rattle.times.specs.Releases.{every}
use Rattle.times.specs.Points.{publishing, reading}
use Rattle.outcomes.specs.Outcome.{Outcome, gives, refuses, asked_of}
use Rattle.table.specs.Image.{read_image}
use Rattle.table.specs.Shown.{answer_of}
use Rattle.table.specs.declared.Table.{Table}
use Rattle.copies.specs.Plans.{Plan}
use Rattle.ages.specs.Ages.{Chain, Ages, end_of, ages_of}
use Rattle.questions.specs.Questions as question
use Rattle.printing.specs.Printed as printing
use Rattle.first_line.specs.FirstLine as rounds

-- the answer P(n), Q(n)
abbrev pub pair : (P Q : ℕ) → Outcome question.Points
pair P Q = gives (record { publishing = P; reading = Q })

-- the answer for a chain
abbrev pub aged : (paths long worst best jitter : ℕ) → Ages
aged paths long worst best jitter =
    record { paths = paths; longest = long; worst = worst; best = best; jitter = jitter }

-- What a case says. Of periods alone: P(n) and Q(n) of a writer's and a reader's period; the end of a start of a chain,
-- and its answer. Of an image: which bytes it has; what is said of it; its hyperperiod; what is said to a question of
-- it; how many bytes a listing fills; what a lent buffer holds before and after; what is printed; and at which ticks
-- before an instant a plan writes a label, or serves a reader.
pub data Case : Type 0 where
  points_by : (Tw Tr n P Q : ℕ) → Case
  end : (chain : Chain) (t E : ℕ) → Case
  answer : (chain : Chain) (said : Ages) → Case
  made : (image bytes : List ℕ) → Case
  accepted : (image : List ℕ) → Case
  refused : (image : List ℕ) (number place : ℕ) → Case
  hyperperiod : (image : List ℕ) (H : ℕ) → Case
  points : (image : List ℕ) (writer reader n : ℕ) (said : Outcome question.Points) → Case
  listing : (image : List ℕ) (core room : ℕ) (said : Outcome (List ℕ)) → Case
  listed : (image : List ℕ) (core room : ℕ) (bytes : Outcome ℕ) → Case
  lent : (image : List ℕ) (core : ℕ) (buffer after : List ℕ) → Case
  ages : (image : List ℕ) (chain : ℕ) (said : Outcome Ages) → Case
  printed : (image text : List ℕ) → Case
  writes : (plan : Table → Plan) (image : List ℕ) (label before : ℕ) (ticks : List ℕ) → Case
  serves : (plan : Table → Plan) (image : List ℕ) (label reader before : ℕ) (ticks : List ℕ) → Case

-- that it is so, by the definitions
unfoldable pub Holds : Case → Type 0
Holds (points_by Tw Tr n P Q) = pair (publishing (every Tw) (every Tr) n) (reading (every Tw) (every Tr) n) ≡ pair P Q
Holds (end chain t E) = end_of chain t ≡ E
Holds (answer chain said) = ages_of chain ≡ said
Holds (made image bytes) = image ≡ bytes
Holds (accepted image) = answer_of image ≡ gives tt
Holds (refused image number place) = answer_of image ≡ refuses number place
Holds (hyperperiod image H) = rounds.hyperperiod image ≡ gives H
Holds (points image writer reader n said) = question.points image writer reader n ≡ said
Holds (listing image core room said) = question.listing image core room ≡ said
Holds (listed image core room bytes) = question.bytes_listed (question.listing image core room) ≡ bytes
Holds (lent image core buffer after) =
    question.lent_after (question.listing image core (length buffer)) buffer ≡ after
Holds (ages image chain said) = question.ages image chain ≡ said
Holds (printed image text) = printing.printed image ≡ text
Holds (writes plan image l before ticks) =
    asked_of (read_image image)
    (λ whole. gives (each_below before (λ t. only_if ((plan whole.table).writes l t) t)))
    ≡ gives ticks
Holds (serves plan image l r before ticks) =
    asked_of (read_image image)
    (λ whole. gives (each_below before (λ t. only_if ((plan whole.table).serves l r t) t)))
    ≡ gives ticks

-- all of a list of cases
infixr 5 ◌also◌
pub data AllHold : List Case → Type 0 where
  none : AllHold []
  ◌also◌ : {case : Case} {cases : List Case} → Holds case → AllHold cases → AllHold (case ∷ cases)
