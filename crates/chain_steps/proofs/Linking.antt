-- Labels linked one after the other: none yet, and one more. No contract cites this file. Assumes nothing.
use Prim.Native.Nat.{ℕ, ◌+◌, ◌<◌, ◌≤◌}
use mathlib.Core.Path.{◌≡◌, refl, sym, ap, subst, ◌∙◌}
use mathlib.Core.Logic.{⊎_elim, by_cases}
use mathlib.Core.List.{List}
use native.Mathlib.Decide.{dec_lt}
use native.Mathlib.Numerals.{add-one}
use native.Mathlib.Omega.{arith}
use lib.Dec.{eqb}
use lib.ListN.{length, get_or, set, replicate, length-set, get_or-replicate}
use lib.Seq.{get_or-set_same, get_or-set_other}
use borrow.Author.Tests.{eqb-true, eqb-false, eq-eqb, ne_eqb}
use Rattle.lists.specs.Lists.{last_below}
use Rattle.lists.proofs.Bools.{true_or_false}
use Rattle.lists.proofs.Last.{last_within}
use Rattle.std.specs.Prelude.{Option, None, Some}
use Rattle.chain_steps.specs.Linked.{last_written, counted, Linked, Falling}
use Rattle.chain_steps.specs.declared.links.Links.{Links}

-- every entry of a list after one of them was stored
stored : {A : Type 0} (d : A) (P : ℕ → A → Type 0) (xs : List A) (i : ℕ) (x : A) → i < length xs → P i x
    → ((j : ℕ) → ¬ (i ≡ j) → P j (get_or xs j d)) → (j : ℕ) → P j (get_or (set xs i x) j d)
stored d P xs i x inside here elsewhere j =
    ⊎_elim
    (λ same. subst (λ k. P k (get_or (set xs i x) k d)) (eqb-true i j same) (rw (get_or-set_same xs i x d inside) here))
    (λ other.
    let apart = eqb-false i j other in
    rw (get_or-set_other xs i j x d (λ e. apart (sym e))) (elsewhere j apart))
    (true_or_false (eqb i j))

module _ (writer : List ℕ) where
  -- the first n labels are linked
  pub record Linking (n : ℕ) (links : Links) : Type 0 where
    pub tasks_long : length links.latest ≡ 32
    pub labels_long : length links.before ≡ 64
    pub linked : Linked writer n links
    pub falling : Falling links

  abbrev pub no_links : Links
  no_links = record { latest = replicate 32 None; before = replicate 64 None }

  pub none_linked : Linking 0 no_links
  unfolding last_below
  none_linked = record {
    tasks_long = refl;
    labels_long = refl;
    linked = record {
      of_tasks = λ w known. ap counted (get_or-replicate {A = Option ℕ} 32 w None None known);
      of_labels = λ l known few. absurd (omega arith);
    };
    falling = record {
      begins = λ w known. rw (get_or-replicate {A = Option ℕ} 32 w None None known) (omega arith);
      falls = λ l inside. rw (get_or-replicate {A = Option ℕ} 64 l None None inside) (omega arith);
    };
  }

  -- label n, written by task w
  module _ {n : ℕ} {links : Links} (linking : Linking n links) (room : n < 64) (few : get_or writer n 0 < 32) where
    abbrev w : ℕ
    w = get_or writer n 0

    abbrev earlier : Option ℕ
    earlier = get_or links.latest w None

    before_label : counted earlier ≡ last_written writer n w
    before_label = linking.linked.of_tasks w few

    pub one_linked : Linking (n + 1) (record { latest = set links.latest w (Some n); before = set links.before n earlier })
    unfolding last_below
    one_linked =
        let task : w < length links.latest = omega (arith, linking.tasks_long) in
        let label : n < length links.before = omega (arith, linking.labels_long) in
        let within = last_within n (λ l. eqb (get_or writer l 0) w) in
        record {
          tasks_long = length-set links.latest w (Some n) ∙ linking.tasks_long;
          labels_long = length-set links.before n _ ∙ linking.labels_long;
          linked = record {
            of_tasks = stored None (λ v y. v < 32 → counted y ≡ last_written writer (n + 1) v) links.latest w (Some n) task
                (λ known. rw (add-one, eq-eqb w w refl))
                (λ v other known. rw (add-one, ne_eqb w v other) (linking.linked.of_tasks v known));
            of_labels = stored None
                (λ l y. l < n + 1 → get_or writer l 0 < 32 → counted y ≡ last_written writer l (get_or writer l 0))
                links.before n _ label
                (λ known few. before_label)
                (λ l other known few. linking.linked.of_labels l (omega arith) few);
          };
          falling = record {
            begins = stored None (λ v y. v < 32 → counted y ≤ 64) links.latest w (Some n) task
                (λ known. omega arith)
                (λ v other known. linking.falling.begins v known);
            falls = stored None (λ l y. l < 64 → counted y ≤ l) links.before n _ label
                (λ known. rw before_label within)
                (λ l other known. linking.falling.falls l known);
          };
        }

  -- label n, written by none of the 32 tasks
  pub none_more : {n : ℕ} {links : Links} → Linking n links → 32 ≤ get_or writer n 0 → Linking (n + 1) links
  unfolding last_below
  none_more {n} linking far = record {
    tasks_long = linking.tasks_long;
    labels_long = linking.labels_long;
    linked = record {
      of_tasks = λ v known. rw (add-one, ne_eqb (get_or writer n 0) v (λ e. absurd (omega arith)))
          (linking.linked.of_tasks v known);
      of_labels = λ l known few.
          by_cases (dec_lt l n) (λ below. linking.linked.of_labels l below few) (λ past.
          let same : l ≡ n = omega arith in
          let e = ap (λ k. get_or writer k 0) same in
          absurd (omega arith));
    };
    falling = linking.falling;
  }
