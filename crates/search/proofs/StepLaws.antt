-- One step of the loop over the entries of an index block: an entry's block is passed, refused, or opened and walked down from.
-- Assumes nothing.
use Rattle.std.specs.Prelude.{Some, Result, Ok, Err}
use Rattle.std.specs.Prelude.{Option as Given}
use Rattle.outcome.specs.Fault.{number, said}
use Rattle.items.specs.declared.Step.{Step}
use mathlib.Core.Path.{◌≡◌, refl, sym, ap, ap₂, ◌∙◌, subst}
use mathlib.Core.Bool.{Bool, true, false, cond}
use mathlib.Core.List.{List, [], ◌∷◌, ◌++◌}
use mathlib.Core.Option.{Option}
use Prim.Native.Nat.{ℕ, ◌+◌, ◌-◌, ◌≤◌, ◌<◌}
use native.Mathlib.Omega.{arith}
use lib.ListN.{length, length-append}
use Rattle.output_list.specs.OutputList.{padded, with_number}
use Rattle.output_list.proofs.OutputListLaws.{length_with_number, with_number_padded}
use Rattle.outcome.specs.Outcome.{Outcome, answer, refused, ◌>>=◌}
use Rattle.outcome.specs.declared.Refusal.{Refusal}
use Rattle.outcome.proofs.OutcomeLaws.{bind_answer, bind_refused}
use Rattle.framing.specs.declared.Frame.{Frame}
use Rattle.payload.specs.Payload.{Entry}
use Rattle.query.specs.Opening.{may_match}
use Rattle.search.specs.declared.opening.Named.{Named}
use Rattle.search.specs.declared.child.Child.{Child}
use Rattle.search.specs.declared.walk.Progress.{Progress}
use Rattle.search.specs.Search.{Walked, with_opened, next_key, child_named, open_block, walk_of}
use Rattle.search.specs.Steps.{frame_of, bound_of, admitted, ChildWithin, ChildStays, IsChild, ChildSaid}
use Rattle.search.specs.Steps.{HasRoom, StaysWithin, WalkAsks, ListsHold, Reaches, WalkSaid}
use Rattle.search.proofs.OpeningLaws.{IsOpened, said⇒IsOpened, said⇒refused}
use Rattle.search.proofs.WalkLaws.{down_from, through_next, walk_said}
use Rattle.search.proofs.OnwardLaws.{Walking, places, room, Gives, Entries, Reads, Said, Led, Onward}

-- what is known of an entry that was read
pub told_within : {file : List ℕ} {f : Frame} {at : ℕ} {o : Given (Step Child)} {step : Step Child} → o ≡ Some step → ChildStays file f at o
    → ChildWithin file f at step.item step.next
unfolding ChildStays
told_within {file} {f} {at} told stays = subst (ChildStays file f at) told stays

-- an entry was read: its block, and where the next entry begins
module _ {w : Walking} {opened_now resultsNow : List ℕ} {at : ℕ} {p : Progress} (on : Onward w opened_now resultsNow at p)
    {o : Given (Step Child)} (read : Reads w at o) {step : Step Child} (told : o ≡ Some step) (stays : ChildStays w.file w.frame at o) where
  -- its block, and where the next entry begins
  abbrev c : Child
  c = step.item

  abbrev next : ℕ
  next = step.next

  within : ChildWithin w.file w.frame at c next
  within = told_within told stays

  -- the walk down from its block
  abbrev Down : Walked → Outcome Walked
  Down t = down_from w.file w.query (places w) (room w) w.from c.named (w.frame.level - 1) (bound_of w.file c.upper) t

  -- what going through the entries gives, where these follow it
  record AtEntry (all : List Entry) (s : Walked) : Type 0 where
    found : Walked
    held : ListsHold opened_now resultsNow p found
    after : List Entry
    entries : Entries w next after
    leads : Gives w all s ≡ (cond (admitted w.file w.query c) (Down found) (answer found) >>= Gives w after)

  at_entry : (all : List Entry) (s : Walked) → Entries w (w.frame.body + 1) all → ListsHold w.opened w.results w.before s → AtEntry all s
  unfolding ChildSaid admitted
  at_entry all s row h = go (on.led all s row h)
    where
      -- the entry with this key, upper bound and block, before these
      visit : Walked → List Entry → List ℕ → Option (List ℕ) → Named → Outcome Walked
      visit t after key upper n =
          cond (may_match key upper w.query) (down_from w.file w.query (places w) (room w) w.from n (w.frame.level - 1) upper t) (answer t)
          >>= Gives w after

      there : (l : Led w opened_now resultsNow at p all s) → IsChild w.file w.frame w.above c next l.left → AtEntry all s
      there l x =
          let named = sym (within.named ∙ ap₂ (child_named w.frame.start (w.frame.level - 1)) x.offset x.size) in
          record {
            found = l.found;
            held = l.held;
            after = x.after;
            entries = x.rest;
            leads =
                l.leads
                ∙ ap (λ (es : List Entry). Gives w es l.found) x.split
                ∙ through_next w.file w.query (places w) (room w) w.from w.frame (bound_of w.file w.above) x.entry x.after l.found
                ∙ ap (visit l.found x.after x.entry.key.bytes (next_key x.after (bound_of w.file w.above))) named
                ∙ ap (λ (u : Option (List ℕ)). visit l.found x.after x.entry.key.bytes u c.named) (sym x.upper)
                ∙ ap (λ (k : List ℕ). visit l.found x.after k (bound_of w.file c.upper) c.named) (sym x.lower);
          }

      go : Led w opened_now resultsNow at p all s → AtEntry all s
      go l = there l (subst (λ (r : Given (Step Child)). ChildSaid w.file w.frame w.above r l.left) told (read l.left l.entries))

  -- its bounds admit no match
  pub onward_passed : {a : Bool} → a ≡ admitted w.file w.query c → a ≡ false → Onward w opened_now resultsNow next p
  onward_passed tested fails =
      record {
        index = on.index;
        asks = on.asks;
        long = on.long;
        wide = on.wide;
        fits = on.fits;
        led = λ all s row h. go all s (at_entry all s row h);
      }
    where
      go : (all : List Entry) (s : Walked) → AtEntry all s → Led w opened_now resultsNow next p all s
      go all s x =
          record {
            found = x.found;
            held = x.held;
            left = x.after;
            entries = x.entries;
            leads =
                x.leads
                ∙ ap (λ (b : Bool). cond b (Down x.found) (answer x.found) >>= Gives w x.after) (sym tested ∙ fails)
                ∙ bind_answer (answer x.found) (Gives w x.after) x.found refl;
          }

  -- they admit one: a refusal down there is a refusal of the walk
  down_refused : admitted w.file w.query c ≡ true → (all : List Entry) (s : Walked) (x : AtEntry all s) (number place : ℕ)
      → Down x.found ≡ refused number place → Gives w all s ≡ refused number place
  down_refused some all s x number place e =
      x.leads
      ∙ ap (λ (b : Bool). cond b (Down x.found) (answer x.found) >>= Gives w x.after) some
      ∙ bind_refused (Down x.found) (Gives w x.after) number place e

  -- what the opening says, and the opened list with the block's offset
  module _ {a : Bool} (tested : a ≡ admitted w.file w.query c) (yes : a ≡ true) {opening : Result Frame Refusal} {list : List ℕ}
      (tells : (s : Walked) → p.used ≡ length s.opened → said opening ≡ frame_of (open_block w.file (length opened_now) w.from c.named s))
      (stored : list ≡ with_number opened_now p.used c.named.offset) where
    -- it is refused
    pub onward_unopened : {r : Refusal} {openedThen resultsThen : List ℕ} → opening ≡ Err r → Said w (Err r) openedThen resultsThen
    unfolding said down_from Reaches StaysWithin
    onward_unopened {r} is = walk_said on.asks on.index tt (λ all s row h. go all s (at_entry all s row h))
      where
        go : (all : List Entry) (s : Walked) → AtEntry all s → Gives w all s ≡ refused (number r.fault) r.place
        go all s x =
            down_refused (sym tested ∙ yes) all s x (number r.fault) r.place
            (bind_refused (open_block w.file (places w) w.from c.named x.found) _ (number r.fault) r.place
            (ap (λ (k : ℕ). open_block w.file k w.from c.named x.found) (sym on.long)
            ∙ said⇒refused w.file (length opened_now) w.from c.named (number r.fault) r.place x.found
            (sym (ap said is) ∙ tells x.found x.held.many)))

    -- it is opened
    module _ {g : Frame} (is : opening ≡ Ok g) where
      is_opened_lem : IsOpened w.file (length opened_now) w.from c.named p.used g
      unfolding said
      is_opened_lem = said⇒IsOpened w.file (length opened_now) w.from c.named p.used g (λ s many. sym (ap said is) ∙ tells s many)

      list_long : length list ≡ length opened_now
      list_long = ap length stored ∙ length_with_number opened_now p.used c.named.offset

      -- it has the next level
      levels : (w.frame.level - 1 ≤ g.level) × (g.level ≤ w.frame.level - 1)
      unfolding child_named
      levels = (
        subst (λ (m : Named). m.least ≤ g.level) within.named is_opened_lem.least_level,
        subst (λ (m : Named). g.level ≤ m.most) within.named is_opened_lem.most_level,
      )

      pub child_place : p.used < length opened_now
      child_place = is_opened_lem.fits

      -- with it
      abbrev one_more : Progress
      one_more = record { used = p.used + 1; found = p.found }

      -- what the walk down from it asks
      pub child_asks : (g.level < w.frame.level) × WalkAsks w.file g c.upper one_more (length list) (length resultsNow)
      child_asks =
          let index = on.index in
          let ordinary = on.asks.ordinary in
          let high = levels.1 in
          let few = is_opened_lem.fits in
          let same = list_long in
          let wide = on.wide in
          let room = on.fits.found in (
            omega arith,
            record {
              small = on.asks.small;
              frame = is_opened_lem.within;
              ordinary = omega arith;
              bound = within.upper;
              fits = record { opened = omega arith; found = omega arith };
            },
          )

      -- the lists hold what was found before, and the block
      with_child : (t : Walked) → ListsHold opened_now resultsNow p t → ListsHold list resultsNow one_more (with_opened c.named.offset t)
      unfolding with_opened
      with_child t h =
          let offset = c.named.offset in
          let few = is_opened_lem.fits in
          let many = h.many in
          let long = list_long in
          let more = length-append t.opened (offset ∷ []) in
          record {
            opens =
                stored
                ∙ ap (λ (l : List ℕ). with_number l p.used offset) h.opens
                ∙ with_number_padded (length opened_now) t.opened p.used offset (sym many) few
                ∙ ap (λ (k : ℕ). padded k (t.opened ++ (offset ∷ []))) (sym long);
            finds = h.finds;
            many = omega arith;
            matched = h.matched;
          }

      -- what the walk down from it says
      module _ {r : Result Progress Refusal} {openedThen resultsThen : List ℕ}
          (walked : WalkSaid w.file w.query w.from g c.upper one_more list resultsNow r openedThen resultsThen) where
        down : (t : Walked) → ListsHold opened_now resultsNow p t → Reaches r openedThen resultsThen (Down t)
        unfolding down_from
        down t h =
            let x = is_opened_lem in
            let s = with_opened c.named.offset t in
            let low = levels.0 in
            let high = levels.1 in
            let long : length list ≡ places w = list_long ∙ on.long in
            let level : g.level ≡ w.frame.level - 1 = omega arith in
            subst (Reaches r openedThen resultsThen)
            (ap (λ (k : ℕ). walk_of w.file w.query k (length resultsNow) w.from g.level x.block (bound_of w.file c.upper) s) long
            ∙ ap (λ (k : ℕ). walk_of w.file w.query (places w) k w.from g.level x.block (bound_of w.file c.upper) s) on.wide
            ∙ ap (λ (k : ℕ). walk_of w.file w.query (places w) (room w) w.from k x.block (bound_of w.file c.upper) s) level
            ∙ sym (bind_answer (open_block w.file (places w) w.from c.named t) _ x.block
            (ap (λ (k : ℕ). open_block w.file k w.from c.named t) (sym on.long) ∙ x.again t h.many)))
            (walked.reaches x.block s x.inside (with_child t h))

        -- it stops
        pub onward_stopped : {u : Refusal} → r ≡ Err u → Said w r openedThen resultsThen
        unfolding Reaches StaysWithin
        onward_stopped {u} stop =
            subst (λ (k : Result Progress Refusal). Said w k openedThen resultsThen) (sym stop)
            (walk_said on.asks on.index tt (λ all s row h. go all s (at_entry all s row h)))
          where
            go : (all : List Entry) (s : Walked) → AtEntry all s → Gives w all s ≡ refused (number u.fault) u.place
            go all s x =
                down_refused (sym tested ∙ yes) all s x (number u.fault) u.place
                (subst (λ (k : Result Progress Refusal). Reaches k openedThen resultsThen (Down x.found)) stop (down x.found x.held))

        -- it goes on
        pub onward_more : {p₁ : Progress} → r ≡ Ok p₁ → length openedThen ≡ length list → length resultsThen ≡ length resultsNow
            → Onward w openedThen resultsThen next p₁
        unfolding Reaches StaysWithin
        onward_more {p₁} went long wide =
            record {
              index = on.index;
              asks = on.asks;
              long = long ∙ list_long ∙ on.long;
              wide = wide ∙ on.wide;
              fits = fit (subst (λ (k : Result Progress Refusal). StaysWithin k (length list) (length resultsNow)) went walked.stays);
              led = λ all s row h. go all s (at_entry all s row h);
            }
          where
            fit : HasRoom p₁ (length list) (length resultsNow) → HasRoom p₁ (places w) (room w)
            fit room =
                let same = list_long in
                let l = on.long in
                let w = on.wide in
                let opened = room.opened in
                let found = room.found in
                record { opened = omega arith; found = omega arith }

            led : (all : List Entry) (s : Walked) (x : AtEntry all s)
                → (t : Walked) × (Down x.found ≡ answer t) × ListsHold openedThen resultsThen p₁ t
                → Led w openedThen resultsThen next p₁ all s
            led all s x (t, walkedTo, held) =
                record {
                  found = t;
                  held = held;
                  left = x.after;
                  entries = x.entries;
                  leads =
                      x.leads
                      ∙ ap (λ (b : Bool). cond b (Down x.found) (answer x.found) >>= Gives w x.after) (sym tested ∙ yes)
                      ∙ bind_answer (Down x.found) (Gives w x.after) t walkedTo;
                }

            go : (all : List Entry) (s : Walked) → AtEntry all s → Led w openedThen resultsThen next p₁ all s
            go all s x =
                led all s x (subst (λ (k : Result Progress Refusal). Reaches k openedThen resultsThen (Down x.found)) went (down x.found x.held))
