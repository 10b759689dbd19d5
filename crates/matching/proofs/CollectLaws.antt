-- Laws of a loop that goes through items and puts the records of each that match on a lent list.
-- Assumes nothing.
use mathlib.Core.Path.{◌≡◌, refl, sym, ap, ◌∙◌}
use mathlib.Core.Bool.{Bool, true, false}
use lib.Dec.{leb}
use borrow.Author.Tests.{leb-true, leb-false}
use mathlib.Core.List.{List, [], flat_map}
use Prim.Native.Nat.{ℕ, zero, suc, ◌+◌, ◌-◌, ◌≤◌, ◌<◌}
use native.Mathlib.Omega.{arith}
use lib.ListN.{length}
use Rattle.outcome.specs.Outcome.{Outcome, answer, refused}
use Rattle.items.specs.Items.{sound_from}
use Rattle.items.specs.declared.Step.{Step}
use Rattle.items.proofs.ItemsLaws.{sound_end, sound_step, sound_refused}
use Rattle.payload.specs.Payload.{Text}
use Rattle.query.specs.Query.{Query}
use Rattle.matching.specs.Matching.{matching}
use Rattle.matching.specs.ResultList.{Stored, put_all}
use Rattle.matching.proofs.MatchLaws.{matching_nil, matching-append}
use Rattle.matching.proofs.ResultListLaws.{put_all_append}

-- `step` reads an item at an offset; refusals have a place, which no item depends on. `texts` are the records of an item.
module _ {A : Type 0} (step : (place at : ℕ) → Outcome (Step A)) (texts : A → List Text) (q : Query) (end from : ℕ) (first : Stored) where
  -- the records in front of the first refusal
  abbrev pub texts_from : (place fuel at : ℕ) → List Text
  texts_from place fuel at = flat_map texts (sound_from (step place) end fuel at)

  -- Going on at `at` from what is stored gives what going through all items from `from` gives.
  pub record Collected (at : ℕ) (stored : Stored) : Type 0 where
    pub fuel : ℕ
    pub enough : end - at ≤ fuel
    pub leads : (place : ℕ) → put_all first (matching q (texts_from place (end - from) from)) ≡ put_all stored (matching q (texts_from place fuel at))
    -- at most one match for each byte
    pub few : stored.count + (end - at) ≤ first.count + (end - from)
    pub long : length stored.list ≡ length first.list

  pub collected_start : Collected from first
  collected_start = record { fuel = end - from; enough = omega arith; leads = λ place. refl; few = omega arith; long = refl }

  -- one item more
  pub collected_more : (at : ℕ) (stored : Stored) → Collected at stored → at < end
      → (s : Step A) → ((place : ℕ) → step place at ≡ answer s) → at < s.next
      → (later : Stored) → later ≡ put_all stored (matching q (texts s.item)) → later.count + (end - s.next) ≤ stored.count + (end - at)
      → length later.list ≡ length stored.list
      → Collected s.next later
  unfolding flat_map
  collected_more at stored p h s e forward later is few long = more p.fuel p.enough p.leads
    where
      more : (fuel : ℕ) → end - at ≤ fuel
          → ((place : ℕ) → put_all first (matching q (texts_from place (end - from) from)) ≡ put_all stored (matching q (texts_from place fuel at)))
          → Collected s.next later
      more zero enough leads = absurd (omega arith)
      more (suc fuel) enough leads =
          record {
            fuel = fuel;
            enough = omega arith;
            leads = λ place.
                leads place
                ∙ ap (λ l. put_all stored (matching q (flat_map texts l))) (sound_step (step place) end fuel at s h (e place))
                ∙ ap (put_all stored) (matching-append q (texts s.item) (texts_from place fuel s.next))
                ∙ put_all_append stored (matching q (texts s.item)) (matching q (texts_from place fuel s.next))
                ∙ ap (λ (t : Stored). put_all t (matching q (texts_from place fuel s.next))) (sym is);
            few = let so_far = p.few in omega arith;
            long = long ∙ p.long;
          }

  -- nothing is left to put
  nothing : (place at : ℕ) (stored : Stored) (p : Collected at stored) → sound_from (step place) end p.fuel at ≡ []
      → stored ≡ put_all first (matching q (texts_from place (end - from) from))
  unfolding flat_map put_all
  nothing place at stored p none =
      sym (p.leads place ∙ ap (λ l. put_all stored (matching q (flat_map texts l))) none ∙ ap (put_all stored) (matching_nil q))

  -- the ways out: the end, and a refusal
  pub collected_end : (at : ℕ) (stored : Stored) → Collected at stored → end ≤ at → (place : ℕ)
      → stored ≡ put_all first (matching q (texts_from place (end - from) from))
  collected_end at stored p h place = nothing place at stored p (sound_end (step place) end p.fuel at h)

  pub collected_refused : (at : ℕ) (stored : Stored) → Collected at stored → at < end
      → (place number refused-at : ℕ) → step place at ≡ refused number refused-at → stored ≡ put_all first (matching q (texts_from place (end - from) from))
  collected_refused at stored p h place number refused-at e = nothing place at stored p (none p.fuel p.enough)
    where
      none : (fuel : ℕ) → end - at ≤ fuel → sound_from (step place) end fuel at ≡ []
      none zero enough = absurd (omega arith)
      none (suc fuel) enough = sound_refused (step place) end fuel at number refused-at h e

  -- where nothing can be read, it is one of the two
  pub collected_stopped : (at : ℕ) (stored : Stored) → Collected at stored
      → (place number refused-at : ℕ) → step place at ≡ refused number refused-at → stored ≡ put_all first (matching q (texts_from place (end - from) from))
  collected_stopped at stored p place number refused-at e = go (leb end at) refl
    where
      go : (b : Bool) → leb end at ≡ b → stored ≡ put_all first (matching q (texts_from place (end - from) from))
      go true h = collected_end at stored p (leb-true end at h) place
      go false h = collected_refused at stored p (leb-false end at h) place number refused-at e
