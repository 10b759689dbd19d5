-- The walk of 23 and 24, step by step: the loop over records, the loop over entries, and spans that lie within the file.
-- Assumes nothing.
use mathlib.Core.Path.{◌≡◌, refl, sym, ap, ◌∙◌, subst}
use mathlib.Core.Bool.{Bool, true, false, ◌&&◌, not, cond}
use mathlib.Core.List.{List, [], ◌∷◌}
use Prim.Native.Nat.{ℕ, zero, suc, ◌+◌, ◌-◌, ◌≤◌, min}
use native.Mathlib.Omega.{arith}
use lib.Dec.{leb, ltb, eqb}
use lib.ListN.{length, take}
use lib.Seq.{length-take-le}
use borrow.Author.Tests.{eq-eqb, ne_eqb, ltb-true, ltb-false}
use Rattle.byte_string.specs.Order.{at_most}
use Rattle.byte_string.proofs.OrderLaws.{less_not_at_most}
use Rattle.byte_string.proofs.ComparisonLaws.{says_less_of, says_at_most_of}
use Rattle.outcome.specs.Outcome.{Outcome, answer, refused}
use Rattle.items.specs.Items.{sound_from, where_answered}
use Rattle.items.specs.declared.Step.{Step}
use Rattle.part.specs.Part.{part}
use Rattle.part.specs.declared.Part.{Part}
use Rattle.std.specs.Prelude.{Option, Some, None}
use Rattle.std.specs.Option.{option_or, unwrap_or}
use Rattle.part.proofs.PartLaws.{part-take, length_part}
use Rattle.framing.specs.Frame.{frame_at}
use Rattle.payload.specs.Payload.{Text, Entry, text_at, entry_at}
use Rattle.payload.specs.Answers.{text_in}
use Rattle.payload.proofs.PayloadLaws.{text⇒Placed}
use Rattle.check_walk.specs.declared.keys.Span.{Span}
use Rattle.check_walk.specs.declared.keys.Keys.{Keys}
use Rattle.check_walk.specs.Lookup.{no_part, bytes_in, payload_part, entries_in, records_in}
use Rattle.check_walk.specs.Keys.{no_span, span_joined, span_one, span_over, first_of, Within, earlier, leaf_keys, fits_between, entry_keys, over_keys}
use Rattle.check_walk.specs.Keys.{keys_entering, keys_of}
use Rattle.items.proofs.GoingLaws.{Going, going_start}
use Rattle.check_walk.proofs.LookupLaws.{end_of, payload_within, items_found, items_read}

-- ---- the order of two parts

-- what a comparison says of them, either way round
pub ruleset part_order = (says_less_of, says_at_most_of, less_not_at_most)

-- ---- spans

pub joined_none : (a b : Span) → a.first ≡ None → span_joined a b ≡ b
unfolding span_joined
joined_none a b h = rw h

pub joined_some : (a b : Span) → (a.first ≡ None → ⊥) → span_joined a b ≡ record { first = a.first; last = b.last }
unfolding span_joined
joined_some a b h = go a.first h
  where
    go : (first : Option Part) → (first ≡ None → ⊥) → ◌≡◌ {A = Span} (record { first = option_or first b.first; last = b.last }) (record { first = first; last = b.last })
    go None k = absurd (k refl)
    go (Some p) k = refl

pub joined-within : (file : List ℕ) (a b : Span) → Within file a → Within file b → Within file (span_joined a b)
unfolding span_joined Within first_of
joined-within file a b h k = go a.first h.0
  where
    go : (first : Option Part) → (unwrap_or first no_part).offset + (unwrap_or first no_part).length ≤ length file
        → Within file (record { first = option_or first b.first; last = b.last })
    go None inside = k
    go (Some p) inside = (inside, k.1)

-- ---- the loop over the records

pub over_records_start : (file : List ℕ) (at : ℕ) (p : Part) → p ≡ payload_part (frame_at file at) → (s : List ℕ) → s ≡ take (end_of p) file
    → Going span_over (text_at at s) (length s) (span_over (records_in file at) no_span) p.offset no_span
unfolding records_in
over_records_start file at p e s is =
    going_start _ _ (length s) _ p.offset no_span (ap (λ (rs : List Text). span_over rs no_span) (items_read file at text_at p e s is))

-- a record that was read in s
pub over_record_read : (s : List ℕ) (p : Part) → end_of p ≤ length s → (span next : Span) → next ≡ span_joined span (record { first = Some p; last = p })
    → (more : List Text) → span_over (text_in s p.offset p.length ∷ more) span ≡ span_over more next
unfolding span_over span_one text_in
over_record_read s p inside span next e more =
    ap (λ (k : ℕ). span_over more
    (span_joined span (record { first = Some (record { offset = p.offset; length = k }); last = record { offset = p.offset; length = k } })))
    (length_part s p.offset p.length inside)
    ∙ ap (span_over more) (sym e)

pub over_records_end : (s : Span) → span_over [] s ≡ s
unfolding span_over
over_records_end s = refl

-- ---- a data block

leaf_is : (file : List ℕ) (at : ℕ) (before : Keys) (own : Span) (m : ℕ) → own ≡ span_over (records_in file at) no_span
    → cond (eqb before.unordered 0 && not (at_most (bytes_in file before.span.last) (bytes_in file (first_of own)))) at before.unordered ≡ m
    → record { span = own; unordered = m; misfit = before.misfit } ≡ leaf_keys file at before
unfolding leaf_keys
leaf_is file at before own m e k =
    ap (λ (n : ℕ). record { span = own; unordered = n; misfit = before.misfit }) (sym k)
    ∙ ap (λ (s : Span). record {
      span = s;
      unordered = cond (eqb before.unordered 0 && not (at_most (bytes_in file before.span.last) (bytes_in file (first_of s)))) at before.unordered;
      misfit = before.misfit;
    }) e

module _ (file : List ℕ) (at : ℕ) (before : Keys) (own : Span) (e : own ≡ span_over (records_in file at) no_span) where
  -- an earlier block is out of order
  pub leaf_before : (before.unordered ≡ 0 → ⊥) → record { span = own; unordered = before.unordered; misfit = before.misfit } ≡ leaf_keys file at before
  leaf_before h = leaf_is file at before own before.unordered e (rw (ne_eqb before.unordered 0 h))

  -- none is
  pub leaf_ordered : before.unordered ≡ 0 → (fits : Bool) → fits ≡ at_most (bytes_in file before.span.last) (bytes_in file (first_of own)) → fits ≡ true
      → record { span = own; unordered = before.unordered; misfit = before.misfit } ≡ leaf_keys file at before
  leaf_ordered h fits k t = leaf_is file at before own before.unordered e (rw (eq-eqb before.unordered 0 h, sym k ∙ t))

  -- this one is
  pub leaf_unordered : before.unordered ≡ 0 → (fits : Bool) → fits ≡ at_most (bytes_in file before.span.last) (bytes_in file (first_of own)) → fits ≡ false
      → record { span = own; unordered = at; misfit = before.misfit } ≡ leaf_keys file at before
  leaf_unordered h fits k t = leaf_is file at before own at e (rw (eq-eqb before.unordered 0 h, sym k ∙ t))

-- ---- an entry

pub entry_is : (file : List ℕ) (at : ℕ) (key : List ℕ) (before child : Keys) (span : Span) (m : ℕ) → span ≡ span_joined before.span child.span
    → cond (fits_between file key before.span child.span) child.misfit (earlier child.misfit at) ≡ m
    → record { span = span; unordered = child.unordered; misfit = m } ≡ entry_keys file at key before child
unfolding entry_keys
entry_is file at key before child span m e k =
    ap (λ (s : Span). record { span = s; unordered = child.unordered; misfit = m }) e
    ∙ ap (λ (n : ℕ). record { span = span_joined before.span child.span; unordered = child.unordered; misfit = n }) (sym k)

pub fits_kept : (fits : Bool) (a b : ℕ) → fits ≡ true → cond fits a b ≡ a
fits_kept fits a b h = rw h

pub fits_broken : (fits : Bool) (a b m : ℕ) → fits ≡ false → m ≡ b → cond fits a b ≡ m
fits_broken fits a b m h e = rw h (sym e)

-- ---- places

pub earlier_none : (m at : ℕ) → m ≡ 0 → at ≡ earlier m at
unfolding earlier
earlier_none m at h = rw (eq-eqb m 0 h)

pub earlier_some : (m at : ℕ) → (m ≡ 0 → ⊥) → min m at ≡ earlier m at
unfolding earlier
earlier_some m at h = rw (ne_eqb m 0 h) (go (ltb at m) refl)
  where
    go : (b : Bool) → ltb at m ≡ b → min m at ≡ cond b at m
    go true e = let less = ltb-true at m e in omega arith
    go false e = let more = ltb-false at m e in omega arith

-- ---- the loop over the entries

pub keys_leaf : (file : List ℕ) (level at : ℕ) (before : Keys) → level ≡ 0 → leaf_keys file at before ≡ keys_of file level at before
unfolding keys_of
keys_leaf file level at before e = ap (λ (l : ℕ). keys_of file l at before) (sym e)

pub keys_index : (file : List ℕ) (level at : ℕ) (before : Keys) → (level ≡ 0 → ⊥)
    → keys_of file level at before ≡ over_keys file at (keys_of file (level - 1)) (entries_in file at) (keys_entering before)
unfolding keys_of
keys_index file zero at before h = absurd (h refl)
keys_index file (suc level) at before h =
    let one : level ≡ suc level - 1 = omega arith in
    ap (λ (l : ℕ). over_keys file at (keys_of file l) (entries_in file at) (keys_entering before)) one

pub keys_start : (file : List ℕ) (level at : ℕ) (met : Keys) (p : Part) → p ≡ payload_part (frame_at file at) → (s : List ℕ) → s ≡ take (end_of p) file
    → Going (over_keys file at (keys_of file (level - 1))) (entry_at at s) (length s)
    (over_keys file at (keys_of file (level - 1)) (entries_in file at) met) p.offset met
unfolding entries_in
keys_start file level at met p e s is =
    going_start _ _ (length s) _ p.offset met
    (ap (λ (es : List Entry). over_keys file at (keys_of file (level - 1)) es met) (items_read file at entry_at p e s is))

pub keys_whole : (file : List ℕ) (level at : ℕ) (before met : Keys) → (level ≡ 0 → ⊥) → met ≡ keys_entering before
    → over_keys file at (keys_of file (level - 1)) (entries_in file at) met ≡ keys_of file level at before
keys_whole file level at before met h e = ap (over_keys file at (keys_of file (level - 1)) (entries_in file at)) e ∙ sym (keys_index file level at before h)

pub over-keys_end : (file : List ℕ) (at : ℕ) (child : ℕ → Keys → Keys) (met : Keys) → over_keys file at child [] met ≡ met
unfolding over_keys
over-keys_end file at child met = refl

-- an entry whose key was read in what comes before the payload's end
pub over_key : (file : List ℕ) (at end : ℕ) (child : ℕ → Keys → Keys) (key : Part) (offset size : ℕ) (met own next : Keys) → end_of key ≤ end
    → own ≡ child offset met → next ≡ entry_keys file at (bytes_in file key) met own
    → (more : List Entry)
    → over_keys file at child (record { key = text_in (take end file) key.offset key.length; offset = offset; size = size } ∷ more) met
    ≡ over_keys file at child more next
unfolding over_keys text_in bytes_in
over_key file at end child key offset size met own next inside walked e more =
    ap (λ (k : List ℕ). over_keys file at child more (entry_keys file at k met (child offset met))) (part-take file end key.offset key.length inside)
    ∙ ap (λ (o : Keys). over_keys file at child more (entry_keys file at (part file key.offset key.length) met o)) (sym walked)
    ∙ ap (over_keys file at child more) (sym e)

-- ---- within the file

entering_within : (file : List ℕ) (before : Keys) → Within file before.span → Within file (keys_entering before).span
unfolding keys_entering Within first_of no_part
entering_within file before h = (omega arith, h.1)

pub met_within : (file : List ℕ) (before met : Keys) → met ≡ keys_entering before → Within file before.span → Within file met.span
met_within file before met e h = subst (λ (k : Keys). Within file k.span) (sym e) (entering_within file before h)

pub entry_keys_within : (file : List ℕ) (at : ℕ) (key : List ℕ) (before child : Keys) → Within file before.span → Within file child.span
    → Within file (entry_keys file at key before child).span
unfolding entry_keys
entry_keys_within file at key before child h k = joined-within file before.span child.span h k

-- records that were read lie within the file
one_within : (file : List ℕ) (place end at : ℕ) (x : Step Text) → end ≤ length file → text_at place (take end file) at ≡ answer x
    → Within file (span_one x.item)
unfolding span_one Within first_of
one_within file place end at x inside e =
    let p = text⇒Placed place (take end file) at x e in
    let long = p.long in
    let ends = p.ends in
    let within = p.within in
    let all = length-take-le end file inside in
    (omega arith, omega arith)

sound_within : (file : List ℕ) (place end : ℕ) → end ≤ length file → (fuel at : ℕ) (s : Span) → Within file s
    → Within file (span_over (sound_from (text_at place (take end file)) end fuel at) s)
unfolding sound_from span_over where_answered
sound_within file place end inside zero at s h = h
sound_within file place end inside (suc fuel) at s h =
    go (leb end at) (text_at place (take end file) at) refl (λ (a : ℕ) (t : Span). sound_within file place end inside fuel a t)
  where
    go : (t : Bool) (o : Outcome (Step Text)) → text_at place (take end file) at ≡ o
        → ((a : ℕ) (t : Span) → Within file t → Within file (span_over (sound_from (text_at place (take end file)) end fuel a) t))
        → Within file (span_over (cond t [] (where_answered o (λ x. x.item ∷ sound_from (text_at place (take end file)) end fuel x.next))) s)
    go true o e ih = h
    go false (answer x) e ih =
        ih x.next (span_joined s (span_one x.item)) (joined-within file s (span_one x.item) h (one_within file place end at x inside e))
    go false (refused number place) e ih = h

none_within : (file : List ℕ) → Within file no_span
unfolding Within no_span first_of no_part
none_within file = (omega arith, omega arith)

pub records_within : (file : List ℕ) (at : ℕ) (own : Span) → own ≡ span_over (records_in file at) no_span → Within file own
unfolding records_in
records_within file at own e =
    let p = payload_part (frame_at file at) in
    subst (Within file) (sym (e ∙ ap (λ (rs : List Text). span_over rs no_span) (items_found file at text_at p refl)))
    (sound_within file at (end_of p) (payload_within file at) (end_of p - p.offset) p.offset no_span (none_within file))

over-within : (file : List ℕ) (at : ℕ) (child : ℕ → Keys → Keys) → ((o : ℕ) (k : Keys) → Within file k.span → Within file (child o k).span)
    → (es : List Entry) (met : Keys) → Within file met.span → Within file (over_keys file at child es met).span
unfolding over_keys
over-within file at child h [] met k = k
over-within file at child h (e ∷ es) met k =
    over-within file at child h es (entry_keys file at e.key.bytes met (child e.offset met))
    (entry_keys_within file at e.key.bytes met (child e.offset met) k (h e.offset met k))

-- what the walk hands back lies within the file
pub keys-within : (file : List ℕ) (level at : ℕ) (before : Keys) → Within file before.span → Within file (keys_of file level at before).span
unfolding keys_of leaf_keys
keys-within file zero at before h = records_within file at (span_over (records_in file at) no_span) refl
keys-within file (suc level) at before h =
    over-within file at (keys_of file level) (λ o k w. keys-within file level o k w) (entries_in file at) (keys_entering before) (entering_within file before h)
