-- Laws of the offsets that are stored, and of the records that are put over them.
-- Assumes nothing.
use mathlib.Core.Path.{◌≡◌, refl, sym, ap, ap₂, ◌∙◌}
use mathlib.Core.Bool.{Bool, true, false}
use mathlib.Core.List.{List, [], ◌∷◌, ◌++◌, append_assoc, append-nil, flat_map, map}
use Prim.Native.Nat.{ℕ, zero, suc, ◌+◌, ◌*◌, ◌-◌, ◌≤◌, ◌<◌}
use native.Mathlib.Numerals.{add-one}
use native.Mathlib.Omega.{arith}
use lib.ListN.{length, get_or, set, take, drop, length-append, length-map, length-drop, length-set, get_or-map}
use lib.Seq.{take_all, take_at, drop_at, drop-drop, drop-length, length-take-le}
use borrow.Rule.Slice.PartMut.{put_mid, Post-is, same_len_mid}
use Rattle.part.specs.Part.{part}
use Rattle.part.proofs.PartLaws.{drop_later}
use Rattle.endian.specs.FixedWidth.{little_endian}
use Rattle.output_bytes.specs.OutputBytes.{stored, stored_length}
use Rattle.output_bytes.proofs.OutputBytesLaws.{fits_some, stored_some, length-stored, stored-append}
use Rattle.uleb128.specs.Encoding.{encoding}
use Rattle.layout.specs.Blocks.{text_bytes, records_bytes}
use Rattle.layout.proofs.ReadBackLaws.{length_text}
use Rattle.sorting.specs.Sorting.{sorted, Sorted}
use Rattle.sorting.proofs.SortedLaws.{sorted_permutation}
use Rattle.slots.specs.Slots.{slots}
use Rattle.slots.proofs.SlotLaws.{length_slots, get_or_slots}
use Rattle.sim.specs.Adn.{is_filled, name_of, record_of, record_at}
use Rattle.sim.proofs.AdnLaws.{record_at_lem, parts_record}
use Rattle.sim_import.specs.Import.{not_free, occupied}
use Rattle.sim_import.specs.Steps.{offsets, Ready, Exact}
use Rattle.sim_import.proofs.BytesLaws.{bytes_long, bytes_more, bytes_front, permutation_long, permutation_bytes}
use Rattle.sim_import.proofs.OccupiedLaws.{occupied_end, occupied_step, occupied_long, free_one, not_free_one}

-- ---- offsets

map-append : {A B : Type 0} (f : A → B) (xs ys : List A) → map f (xs ++ ys) ≡ map f xs ++ map f ys
map-append f [] ys = refl
map-append f (x ∷ xs) ys = ap (λ l. f x ∷ l) (map-append f xs ys)

take-set : (xs : List ℕ) (k v : ℕ) → take k (set xs k v) ≡ take k xs
take-set [] zero v = refl
take-set [] (suc k) v = refl
take-set (x ∷ xs) zero v = refl
take-set (x ∷ xs) (suc k) v = ap (λ l. x ∷ l) (take-set xs k v)

take-set_more : (xs : List ℕ) (k v : ℕ) → k < length xs → take (suc k) (set xs k v) ≡ take k xs ++ (v ∷ [])
take-set_more [] k v h = absurd (omega arith)
take-set_more (x ∷ xs) zero v h = refl
take-set_more (x ∷ xs) (suc k) v h = ap (λ l. x ∷ l) (take-set_more xs k v (omega arith))

-- the first k slots hold the offsets of the records before `at` that aren't free
pub record Placed (x : ℕ) (dump : List ℕ) (old new : List ℕ) (k at : ℕ) : Type 0 where
  pub long : length new ≡ length old
  pub few : k ≤ at
  pub many : k + length (occupied x (drop at dump)) ≡ length (occupied x dump)
  pub all : map (record_at x dump) (take k new) ++ map (record_of x) (occupied x (drop at dump)) ≡ map (record_of x) (occupied x dump)

pub placed_none : (x : ℕ) (dump old : List ℕ) → Placed x dump old old 0 0
placed_none x dump old = record { long = refl; few = omega arith; many = omega arith; all = refl }

module _ (x : ℕ) (dump old new : List ℕ) (k at : ℕ) (p : Placed x dump old new k at) (e : length old ≡ length (occupied x dump)) where
  -- all slots are filled
  pub placed_all : length dump ≤ at → map (record_at x dump) new ≡ map (record_of x) (occupied x dump)
  placed_all h =
      let none = occupied_end x dump at h in
      let many = p.many in
      let count : k ≡ length new = omega (arith, p.long, ap length none) in
      rw (← take_all k new (omega arith))
      (sym (append-nil (map (record_at x dump) (take k new)))
      ∙ ap (λ l. map (record_at x dump) (take k new) ++ map (record_of x) l) (sym none) ∙ p.all)

  module _ (h : at < length dump) where
    abbrev later : List (List ℕ)
    later = occupied x (drop (at + (x + 14)) dump)

    abbrev adn : List ℕ
    adn = part dump at (x + 14)

    -- a free record is passed over
    pub placed_free : is_filled (part dump at (x + 14)) ≡ true → Placed x dump old new k (at + (x + 14))
    placed_free q =
        let same : occupied x (drop at dump) ≡ later = occupied_step x dump at h ∙ ap (λ l. l ++ later) (free_one adn q) in
        record {
          long = p.long;
          few = omega (arith, p.few);
          many = rw (← same) p.many;
          all = rw (← same) p.all;
        }

    -- one more
    pub placed_one : is_filled (part dump at (x + 14)) ≡ false → Placed x dump old (set new k at) (k + 1) (at + (x + 14))
    placed_one q =
        let more : occupied x (drop at dump) ≡ adn ∷ later = occupied_step x dump at h ∙ ap (λ l. l ++ later) (not_free_one adn q) in
        let count : length (occupied x (drop at dump)) ≡ suc (length later) = ap length more in
        let many : k + length (occupied x (drop at dump)) ≡ length (occupied x dump) = p.many in
        let within : k < length new = omega (arith, p.long) in
        record {
          long = simp length-set p.long;
          few = omega (arith, p.few);
          many = omega arith;
          all =
              rw (add-one, take-set_more new k at within, map-append (record_at x dump) (take k new) (at ∷ []))
              (append_assoc (map (record_at x dump) (take k new)) (record_at x dump at ∷ []) (map (record_of x) later)
              ∙ ap (λ r. map (record_at x dump) (take k new) ++ (r ∷ map (record_of x) later)) (sym (record_at_lem x dump adn at refl))
              ∙ ap (λ l. map (record_at x dump) (take k new) ++ map (record_of x) l) (sym more) ∙ p.all);
        }

  module _ (adn : List ℕ) (f : adn ≡ part dump at (x + 14)) (h : at < length dump) where
    -- one more, or none: then the slot behind the last may be set
    pub placed_more : (n : ℕ) → n ≡ length (not_free (adn ∷ [])) → Placed x dump old (set new k at) (k + n) (at + (x + 14))
    placed_more n g = go (is_filled adn) refl
      where
        go : (b : Bool) → is_filled adn ≡ b → Placed x dump old (set new k at) (k + n) (at + (x + 14))
        go true q =
            let free = placed_free h (sym (ap is_filled f) ∙ q) in
            let n-0 : n ≡ 0 = g ∙ ap length (free_one adn q) in
            let k-0 : k + n ≡ k = omega arith in
            record {
              long = simp length-set free.long;
              few = omega (arith, free.few);
              many = rw k-0 free.many;
              all = rw (k-0, take-set new k at) free.all;
            }
        go false q =
            let n-1 : n ≡ 1 = g ∙ ap length (not_free_one adn q) in
            rw n-1 (placed_one h (sym (ap is_filled f) ∙ q))

-- ---- one record

stored_length_fits : (o : List ℕ) (at : ℕ) (s : List ℕ) → at + length s ≤ length o → stored_length o at s ≡ length s
unfolding stored_length
stored_length_fits o at s h = rw (fits_some o at s h)

-- a number, a name and the rest, stored one after the other, are a record after its length
module _ (x : ℕ) (dump : List ℕ) (from : ℕ) (field name rest old : List ℕ) (at number : ℕ) (a : field ≡ take x (part dump from (x + 14)))
    (f : name ≡ name_of field) (g : rest ≡ drop x (part dump from (x + 14))) (n : number ≡ stored_length old at (encoding (length name + length rest)))
    (h : at + length (text_bytes (record_at x dump from)) ≤ length old) where
  abbrev r : List ℕ
  r = record_at x dump from

  e : name ++ rest ≡ r
  e = parts_record x dump from field name rest a f g

  abbrev digits : List ℕ
  digits = encoding (length name + length rest)

  size : length name + length rest ≡ length r
  size = sym (length-append name rest) ∙ ap length e

  text : length (text_bytes r) ≡ length digits + (length name + length rest)
  text = length_text r ∙ rw (← size)

  number_is : number ≡ length digits
  number_is = n ∙ stored_length_fits old at digits (omega (arith, text))

  pub text_length : number + (length name + length rest) ≡ length (text_bytes (record_at x dump from))
  text_length = omega (arith, text, number_is)

  pub text_fits : at + (number + (length name + length rest)) ≤ length old
  text_fits = omega (arith, text_length)

  pub text_stored : (one two new : List ℕ) → one ≡ stored old at (encoding (length name + length rest)) → two ≡ stored one (at + number) name
      → new ≡ stored two (at + number + length name) rest → new ≡ stored old at (text_bytes (record_at x dump from))
  unfolding text_bytes
  text_stored one two new o t s =
      s ∙ rw (t, o, number_is)
      (ap (λ l. stored l (at + length digits + length name) rest) (stored-append old at digits name (omega (arith, text)))
      ∙ place
      ∙ stored-append old at (digits ++ name) rest (rw length-append (omega (arith, text)))
      ∙ ap (stored old at) (append_assoc digits name rest ∙ ap₂ ◌++◌ (ap encoding size) e))
    where
      place : stored (stored old at (digits ++ name)) (at + length digits + length name) rest
          ≡ stored (stored old at (digits ++ name)) (at + length (digits ++ name)) rest
      place = ap (λ k. stored (stored old at (digits ++ name)) k rest) (rw length-append (omega arith))

-- ---- records over their offsets

drop-stored : (o : List ℕ) (at : ℕ) (s : List ℕ) (n : ℕ) → at + length s ≤ n → n ≤ length o → drop n (stored o at s) ≡ drop n o
drop-stored o at s n h l =
    let front : length (take at o ++ s) ≡ at + length s = rw (length-append, length-take-le at o (omega arith)) in
    let whole : stored o at s ≡ (take at o ++ s) ++ drop (at + length s) o =
    stored_some o at s (omega arith) ∙ sym (append_assoc (take at o) s (drop (at + length s) o)) in
    drop_later (stored o at s) o (at + length s) n h (rw whole (drop_at (take at o ++ s) (drop (at + length s) o) (at + length s) front))

-- the first k records stand at the front, and the slots from k on are as they were
pub record Writing (records : List (List ℕ)) (base : ℕ) (old new : List ℕ) (used k : ℕ) : Type 0 where
  pub long : length new ≡ length old
  pub total : used ≡ length (records_bytes (take k records))
  pub bytes : take used new ≡ records_bytes (take k records)
  pub rest : drop (base + 8 * k) new ≡ drop (base + 8 * k) old

pub writing_none : (records : List (List ℕ)) (base : ℕ) (old : List ℕ) → Writing records base old old 0 0
unfolding records_bytes flat_map
writing_none records base old = record { long = refl; total = refl; bytes = refl; rest = refl }

length-offsets : (count : ℕ) (output : List ℕ) → 8 * count ≤ length output → length (offsets count output) ≡ count
unfolding offsets
length-offsets count output h = length_slots 8 (drop (length output - 8 * count) output) ∙ rw length-drop (omega arith)

-- the k-th offset, from the bytes where it stands
offset_at : (count k : ℕ) (output : List ℕ) → 8 * count ≤ length output → k < count
    → little_endian (take 8 (drop (length output - 8 * count + 8 * k) output)) ≡ get_or (offsets count output) k 0
unfolding offsets
offset_at count k output h l =
    rw (← drop-drop (8 * k) (length output - 8 * count) output)
    (get_or_slots 8 (drop (length output - 8 * count) output) k (rw length-drop (omega arith)))

module _ (x : ℕ) (dump : List ℕ) (count : ℕ) (old : List ℕ) (ready : Ready x dump count old) where
  abbrev records : List (List ℕ)
  records = map (record_at x dump) (offsets count old)

  abbrev base : ℕ
  base = length old - 8 * count

  length_records : length records ≡ count
  length_records = rw length-map (length-offsets count old ready.slotted)

  module _ (new : List ℕ) (used k from : ℕ) (w : Writing (map (record_at x dump) (offsets count old)) (length old - 8 * count) old new used k) (h : k < count)
      (e : from ≡ little_endian (take 8 (drop (length old - 8 * count + 8 * k) new))) where
    this : get_or records k (record_at x dump 0) ≡ record_at x dump from
    this =
        get_or-map (record_at x dump) (offsets count old) k 0
        ∙ ap (record_at x dump)
        (sym (offset_at count k old ready.slotted h) ∙ ap (λ l. little_endian (take 8 l)) (sym w.rest) ∙ sym e)

    more : records_bytes (take (k + 1) records) ≡ records_bytes (take k records) ++ text_bytes (record_at x dump from)
    more = bytes_more records k (record_at x dump 0) (rw length_records h) ∙ rw this

    ends : used + length (text_bytes (record_at x dump from)) ≡ length (records_bytes (take (k + 1) records))
    ends = rw (more, length-append, ← w.total)

    before : used + length (text_bytes (record_at x dump from)) ≤ base + 8 * (k + 1)
    before =
        rw ends
        (bytes_front records count (k + 1) (length old) length_records ready.long (sym ready.exact) ready.slotted (omega arith))

    pub writing_fits : used + length (text_bytes (record_at x dump from)) ≤ length new
    writing_fits = omega (arith, before, ready.slotted, w.long)

    pub writing_more : (next : List ℕ) (n : ℕ) → n ≡ length (text_bytes (record_at x dump from)) → next ≡ stored new used (text_bytes (record_at x dump from))
        → Writing (map (record_at x dump) (offsets count old)) (length old - 8 * count) old next (used + n) (k + 1)
    writing_more next n g f =
        let t : List ℕ = text_bytes (record_at x dump from) in
        let front : length (take used new ++ t) ≡ used + n = rw (length-append, length-take-le used new (omega (arith, writing_fits)), g) in
        let whole : next ≡ (take used new ++ t) ++ drop (used + length t) new =
        f ∙ stored_some new used t writing_fits ∙ sym (append_assoc (take used new) t (drop (used + length t) new)) in
        record {
          long = rw f (length-stored new used t ∙ w.long);
          total = rw g ends;
          bytes = rw whole (take_at (take used new ++ t) (drop (used + length t) new) (used + n) front ∙ rw w.bytes (sym more));
          rest =
              ap (drop (base + 8 * (k + 1))) f ∙ drop-stored new used t (base + 8 * (k + 1)) before (omega (arith, ready.slotted, w.long))
              ∙ drop_later new old (base + 8 * k) (base + 8 * (k + 1)) (omega arith) w.rest;
        }

  -- all stand there, and nothing else
  pub writing_all : (new : List ℕ) (used k : ℕ) → Writing (map (record_at x dump) (offsets count old)) (length old - 8 * count) old new used k → count ≤ k
      → new ≡ records_bytes (map (record_at x dump) (offsets count old))
  writing_all new used k w h =
      let all : take k records ≡ records = take_all k records (rw length_records h) in
      let used-is : used ≡ length new = w.total ∙ ap (λ l. length (records_bytes l)) all ∙ sym ready.exact ∙ sym w.long in
      sym (take_all used new (omega arith)) ∙ w.bytes ∙ ap records_bytes all

-- ---- in order

-- the offsets are stored, and then sorted
pub ordered : (x : ℕ) (dump old new : List ℕ) → map (record_at x dump) old ≡ map (record_of x) (occupied x dump) → Sorted (record_at x dump) old new
    → map (record_at x dump) new ≡ sorted (map (record_of x) (occupied x dump))
ordered x dump old new e s = s.strings ∙ ap sorted e

module _ (x : ℕ) (dump : List ℕ) (count : ℕ) (old : List ℕ) (exact : Exact x dump count old) where
  abbrev given : List (List ℕ)
  given = map (record_of x) (occupied x dump)

  pub exact_slots : 8 * count ≤ length old
  exact_slots =
      let long = bytes_long given (occupied_long x dump exact.whole) in
      let many = length-map (occupied x dump) (record_of x) in
      omega (arith, exact.many, exact.exact)

  -- as many slots as records
  pub exact_many : (base : ℕ) → base ≡ length old - 8 * count → length (slots 8 (take (length old - base) (drop base old))) ≡ length (occupied x dump)
  exact_many base b =
      rw (take_all (length old - base) (drop base old) (rw length-drop (omega arith)))
      (length_slots 8 (drop base old) ∙ rw length-drop (omega (arith, exact_slots, exact.many)))

  module _ (base : ℕ) (part : List ℕ) (b : base ≡ length old - 8 * count) (e : length part ≡ length (take (length old - base) (drop base old)))
      (o : map (record_at x dump) (slots 8 part) ≡ sorted (map (record_of x) (occupied x dump))) where
    abbrev next : List ℕ
    next = put_mid base (length old - base) old part

    kept : length next ≡ length old
    kept = same_len_mid base (length old - base) old part e

    part_back : offsets count next ≡ slots 8 part
    unfolding offsets
    part_back =
        let front : length (take base old) ≡ base = length-take-le base old (omega arith) in
        let back : next ≡ take base old ++ part = rw (Post-is base (length old) old (omega arith), drop-length old, append-nil part) in
        rw (kept, ← b, back, drop_at (take base old) part base front)

    order : map (record_at x dump) (offsets count next) ≡ sorted given
    order = rw part_back o

    pub exact_ready : Ready x dump count (put_mid base (length old - base) old part)
    exact_ready = record {
      slotted = rw kept exact_slots;
      long = rw order (permutation_long (sorted_permutation given) (occupied_long x dump exact.whole));
      exact = rw (kept, order, permutation_bytes (sorted_permutation given)) exact.exact;
    }

    pub exact_sorted : (new : List ℕ) → new ≡ records_bytes (map (record_at x dump) (offsets count (put_mid base (length old - base) old part)))
        → new ≡ records_bytes (sorted (map (record_of x) (occupied x dump)))
    exact_sorted new f = f ∙ ap records_bytes order
