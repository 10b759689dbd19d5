-- The loop over the entries of an index block: going on from here gives what going through all of them gives.
-- Assumes nothing.
use Rattle.std.specs.Prelude.{None, Result, Ok}
use Rattle.std.specs.Prelude.{Option as Given}
use Rattle.items.specs.declared.Step.{Step}
use Rattle.outcome.specs.declared.Refusal.{Refusal}
use Rattle.part.specs.declared.Part.{Part}
use Rattle.search.specs.declared.child.Child.{Child}
use mathlib.Core.Path.{◌≡◌, refl, ap, ◌∙◌, subst}
use mathlib.Core.List.{List}
use Prim.Native.Nat.{ℕ, ◌+◌}
use native.Mathlib.Omega.{arith}
use lib.ListN.{length}
use Rattle.outcome.specs.Outcome.{Outcome, answer}
use Rattle.framing.specs.declared.Frame.{Frame}
use Rattle.payload.specs.Payload.{Entry}
use Rattle.query.specs.Query.{Query}
use Rattle.search.specs.declared.walk.Progress.{Progress}
use Rattle.search.specs.Search.{Walked}
use Rattle.search.specs.Steps.{bound_of, entries_from, IndexWithin, ChildSaid, HasRoom, StaysWithin, WalkAsks, ListsHold, Reaches, WalkSaid}
use Rattle.search.proofs.WalkLaws.{through, through_none, walk_said}

-- ---- what is known where the loop goes on

-- what the walk down from an index block began with: the lists, and what was opened and found before
pub record Walking : Type 0 where
  pub file : List ℕ
  pub query : Query
  pub from : ℕ
  pub frame : Frame
  pub above : Given Part
  pub opened : List ℕ
  pub results : List ℕ
  pub before : Progress

module _ (w : Walking) where
  abbrev pub places : ℕ
  places = length w.opened

  abbrev pub room : ℕ
  room = length w.results

  -- what going through entries gives
  abbrev pub Gives : List Entry → Walked → Outcome Walked
  Gives es s = through w.file w.query places room w.from w.frame (bound_of w.file w.above) es s

  -- the entries from an offset on
  abbrev pub Entries : ℕ → List Entry → Type 0
  Entries at es = entries_from w.file w.frame at ≡ answer es

  -- what reading the next of them says
  abbrev pub Reads : ℕ → Given (Step Child) → Type 0
  Reads at o = (es : List Entry) → Entries at es → ChildSaid w.file w.frame w.above o es

  -- what the walk says
  abbrev pub Said : Result Progress Refusal → (opened_now resultsNow : List ℕ) → Type 0
  Said r opened_now resultsNow =
      WalkSaid w.file w.query w.from w.frame w.above w.before w.opened w.results r opened_now resultsNow

  -- where `all` are the entries and `s` was found before them: these are left at `at`, with what is found now
  pub record Led (opened_now resultsNow : List ℕ) (at : ℕ) (p : Progress) (all : List Entry) (s : Walked) : Type 0 where
    pub found : Walked
    pub held : ListsHold opened_now resultsNow p found
    pub left : List Entry
    pub entries : Entries at left
    pub leads : Gives all s ≡ Gives left found

  pub record Onward (opened_now resultsNow : List ℕ) (at : ℕ) (p : Progress) : Type 0 where
    pub index : w.frame.level ≡ 0 → ⊥
    pub asks : WalkAsks w.file w.frame w.above w.before places room
    pub long : length opened_now ≡ places
    pub wide : length resultsNow ≡ room
    pub fits : HasRoom p places room
    pub led : (all : List Entry) (s : Walked) → Entries (w.frame.body + 1) all → ListsHold w.opened w.results w.before s
        → Led opened_now resultsNow at p all s

  pub onward_start : WalkAsks w.file w.frame w.above w.before places room → (w.frame.level ≡ 0 → ⊥)
      → Onward w.opened w.results (w.frame.body + 1) w.before
  onward_start asks index =
      record {
        index = index;
        asks = asks;
        long = refl;
        wide = refl;
        fits = asks.fits;
        led = λ all s row h. record { found = s; held = h; left = all; entries = row; leads = refl };
      }

-- ---- where no entry is left

module _ {w : Walking} {opened_now resultsNow : List ℕ} {at : ℕ} {p : Progress} (on : Onward w opened_now resultsNow at p) where
  -- what reading an entry asks
  pub onward_index : IndexWithin w.file w.frame w.above
  onward_index = let some = on.index in record { index = omega arith; end = on.asks.frame.end; bound = on.asks.bound }

  pub onward_end : {o : Given (Step Child)} → Reads w at o → o ≡ None → Said w (Ok p) opened_now resultsNow
  unfolding ChildSaid Reaches StaysWithin
  onward_end read told = walk_said on.asks on.index on.fits (λ all s row h. go all s (on.led all s row h))
    where
      go : (all : List Entry) (s : Walked) → Led w opened_now resultsNow at p all s
          → (t : Walked) × (Gives w all s ≡ answer t) × ListsHold opened_now resultsNow p t
      go all s l =
          let none = subst (λ (r : Given (Step Child)). ChildSaid w.file w.frame w.above r l.left) told (read l.left l.entries) in (
            l.found,
            l.leads
                ∙ ap (λ (es : List Entry). Gives w es l.found) none
                ∙ through_none w.file w.query (places w) (room w) w.from w.frame (bound_of w.file w.above) l.found,
            l.held,
          )
