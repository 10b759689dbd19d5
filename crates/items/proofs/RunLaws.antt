-- Laws of items up to the end or the first refusal: each was read where the one before it ends.
-- Assumes nothing.
use mathlib.Core.Path.{◌≡◌, refl, sym, subst}
use mathlib.Core.Bool.{Bool, true, false}
use mathlib.Core.Logic.{◌⊎◌, inl, inr}
use mathlib.Core.List.Memᴰ
use mathlib.Core.List.{List, [], ◌∷◌, Memᴰ}
use Prim.Native.Nat.{ℕ, zero, suc, ◌≤◌, ◌<◌}
use native.Mathlib.Omega.{arith}
use lib.Dec.{leb}
use borrow.Author.Tests.{leb-true, leb-false}
use Rattle.outcome.specs.Outcome.{Outcome, answer, refused}
use Rattle.items.specs.Items.{sound_from}
use Rattle.items.specs.declared.Step.{Step}
use Rattle.items.proofs.ItemsLaws.{sound_end, sound_step, sound_refused, Row, row_end, row_more}

module _ {A : Type 0} (step : ℕ → Outcome (Step A)) (end : ℕ) where
  -- items from `at` on, each read before the end and where the one before it ends
  pub data Run : ℕ → List A → Type 0 where
    run_end : {at : ℕ} → Run at []
    run_more : {at : ℕ} (s : Step A) (more : List A) → at < end → step at ≡ answer s → Run s.next more → Run at (s.item ∷ more)

  pub sound⇒run : (fuel at : ℕ) → Run at (sound_from step end fuel at)
  unfolding sound_from
  sound⇒run zero at = run_end
  sound⇒run (suc fuel) at = by_end (leb end at) refl (λ (a : ℕ). sound⇒run fuel a)
    where
      stepped : (o : Outcome (Step A)) → step at ≡ o → at < end → ((a : ℕ) → Run a (sound_from step end fuel a)) → Run at (sound_from step end (suc fuel) at)
      stepped (answer s) p h rest =
          subst (Run at) (sym (sound_step step end fuel at s h p)) (run_more s (sound_from step end fuel s.next) h p (rest s.next))
      stepped (refused number place) p h rest = subst (Run at) (sym (sound_refused step end fuel at number place h p)) run_end

      by_end : (b : Bool) → leb end at ≡ b → ((a : ℕ) → Run a (sound_from step end fuel a)) → Run at (sound_from step end (suc fuel) at)
      by_end true p rest = subst (Run at) (sym (sound_end step end (suc fuel) at (leb-true end at p))) run_end
      by_end false p rest = stepped (step at) refl (leb-false end at p) rest

  -- items that go on to the end
  pub row⇒run : (at : ℕ) (xs : List A) → Row step end at xs → Run at xs
  row⇒run at xs (row_end h) = run_end
  row⇒run at xs (row_more s more h e r) = run_more s more h e (row⇒run s.next more r)

  -- where an item was read
  pub record ReadFrom (from : ℕ) (x : A) : Type 0 where
    pub read_at : ℕ
    pub read : Step A
    pub after : from ≤ read_at
    pub before : read_at < end
    pub stepped : step read_at ≡ answer read
    pub is_item : read.item ≡ x

  pub run_member : ((at : ℕ) (s : Step A) → step at ≡ answer s → at < s.next) → (at : ℕ) (xs : List A) → Run at xs → (x : A) → Memᴰ x xs
      → ReadFrom at x
  run_member forward at xs run_end x m = absurd (Memᴰ.not-nil m)
  run_member forward at xs (run_more s more h e r) x m =
      go (Memᴰ.cases_cons m) (λ (i : Memᴰ x more). run_member forward s.next more r x i)
    where
      later : ReadFrom s.next x → ReadFrom at x
      later q =
          let f = forward at s e in
          let after = q.after in
          record {
            read_at = q.read_at;
            read = q.read;
            after = omega arith;
            before = q.before;
            stepped = q.stepped;
            is_item = q.is_item;
          }

      go : (x ≡ s.item) ⊎ Memᴰ x more → (Memᴰ x more → ReadFrom s.next x) → ReadFrom at x
      go (inl same) rest =
          record {
            read_at = at;
            read = s;
            after = omega arith;
            before = h;
            stepped = e;
            is_item = sym same;
          }
      go (inr inside) rest = later (rest inside)

  pub row_member : ((at : ℕ) (s : Step A) → step at ≡ answer s → at < s.next) → (at : ℕ) (xs : List A) → Row step end at xs → (x : A) → Memᴰ x xs
      → ReadFrom at x
  row_member forward at xs r x m = run_member forward at xs (row⇒run at xs r) x m
