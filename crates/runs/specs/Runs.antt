-- What jobs read when the copies of a plan are made, tick after tick. Document 01, Copies and frames: "Each label has a
-- shared copy, an outgoing copy on its writer's side, and an incoming copy on each reader's side. A write copies
-- outgoing to shared; a read copies shared to one reader's incoming. Jobs write the outgoing copy and read their own
-- incoming one." Values are of any type. Who may read or write which label is not asked: any acts are a run.
-- Assumes nothing.
use Rattle.std.specs.Prelude.{ℕ, zero, suc, cond, List, [], ◌∷◌, ◌++◌, eqb}
use Rattle.copies.specs.Plans.{Plan}

-- a value that a job read: at which tick, of which task the job is, of which label the copy
pub record ValueRead (Value : Type 0) : Type 0 where
  pub tick : ℕ
  pub task : ℕ
  pub label : ℕ
  pub value : Value

-- an act of a job: it reads its task's own incoming copy of a label, it writes the outgoing copy of a label, or neither
pub data Act (Value : Type 0) : Type 0 where
  reads_incoming : (label : ℕ) → Act Value
  writes_outgoing : (label : ℕ) (value : Value) → Act Value
  rests : Act Value

-- a turn of a task. Jobs are arbitrary, as the third demand says: "what they write may depend in any way on the tick
-- and on what their task has read"; and so may whether they read or write at all, and which label
pub record Turn (Value : Type 0) : Type 0 where
  pub task : ℕ
  pub act : (tick : ℕ) → List (ValueRead Value) → Act Value

-- the turns at each tick in their order: any number of them, of any tasks
abbrev pub Turns : Type 0 → Type 0
Turns Value = (tick : ℕ) → List (Turn Value)

-- what jobs leave behind: the outgoing copy of each label, and all that was read so far, in the order of reading
pub record Jobs (Value : Type 0) : Type 0 where
  pub outgoing : (label : ℕ) → Value
  pub read : List (ValueRead Value)

-- of what was read, what one task has read
unfoldable pub read_by : {Value : Type 0} → ℕ → List (ValueRead Value) → List (ValueRead Value)
read_by task [] = []
read_by task (first ∷ more) = cond (eqb first.task task) (first ∷ read_by task more) (read_by task more)

-- an act of task i at tick t
unfoldable pub after_act : {Value : Type 0} → (incoming : ℕ → ℕ → Value) (t i : ℕ) → Act Value → Jobs Value → Jobs Value
after_act incoming t i (reads_incoming l) jobs = record {
  outgoing = jobs.outgoing;
  read = jobs.read ++ record { tick = t; task = i; label = l; value = incoming l i } ∷ [];
}
after_act incoming t i (writes_outgoing l value) jobs = record {
  outgoing = λ label. cond (eqb label l) value (jobs.outgoing label);
  read = jobs.read;
}
after_act incoming t i rests jobs = jobs

-- the turns of tick t, one after the other; each is told the tick and what its task has read so far
unfoldable pub after_turns : {Value : Type 0} → (incoming : ℕ → ℕ → Value) (t : ℕ)
    → List (Turn Value) → Jobs Value → Jobs Value
after_turns incoming t [] jobs = jobs
after_turns incoming t (turn ∷ more) jobs =
    after_turns incoming t more
    (after_act incoming t turn.task (turn.act t (read_by turn.task jobs.read)) jobs)

-- the shared copy of each label, the incoming copy of each label and reader, and what the jobs left behind
pub record State (Value : Type 0) : Type 0 where
  pub shared : (label : ℕ) → Value
  pub incoming : (label reader : ℕ) → Value
  pub jobs : Jobs Value

-- the writes of tick t on all cores: "a write copies outgoing to shared"
unfoldable pub after_writes : {Value : Type 0} → Plan → ℕ → State Value → State Value
after_writes plan t state = record {
  shared = λ l. cond (plan.writes l t) (state.jobs.outgoing l) (state.shared l);
  incoming = state.incoming;
  jobs = state.jobs;
}

-- the reads of tick t on all cores: "a read copies shared to one reader's incoming"
unfoldable pub after_reads : {Value : Type 0} → Plan → ℕ → State Value → State Value
after_reads plan t state = record {
  shared = state.shared;
  incoming = λ l r. cond (plan.serves l r t) (state.shared l) (state.incoming l r);
  jobs = state.jobs;
}

-- the acts of tick t
unfoldable pub after_acts : {Value : Type 0} → Turns Value → ℕ → State Value → State Value
after_acts turns t state = record {
  shared = state.shared;
  incoming = state.incoming;
  jobs = after_turns state.incoming t (turns t) state.jobs;
}

-- at the start all copies of a label are equal, and nothing has been read
unfoldable pub at_start : {Value : Type 0} → (initial : ℕ → Value) → State Value
at_start initial = record {
  shared = initial;
  incoming = λ l r. initial l;
  jobs = record { outgoing = initial; read = [] };
}

-- after the first n ticks, 0 to n−1: at each tick all writes, then all reads, then the acts
unfoldable pub state_after : {Value : Type 0} → Plan → (initial : ℕ → Value) → Turns Value → ℕ → State Value
state_after plan initial turns zero = at_start initial
state_after plan initial turns (suc t) =
    after_acts turns t (after_reads plan t (after_writes plan t (state_after plan initial turns t)))

-- all that jobs read in the first n ticks
unfoldable pub values_read : {Value : Type 0} → Plan → (initial : ℕ → Value) → Turns Value → ℕ → List (ValueRead Value)
values_read plan initial turns n = (state_after plan initial turns n).jobs.read
