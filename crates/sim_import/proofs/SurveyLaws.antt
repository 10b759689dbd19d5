-- Laws of the first pass over a dump.
-- Assumes nothing.
use mathlib.Core.Path.{◌≡◌, refl, sym, ap, ◌∙◌}
use mathlib.Core.Bool.{Bool, true, false}
use mathlib.Core.Logic.{◌⊎◌, inl, inr}
use mathlib.Core.List.{List, [], ◌∷◌, ◌++◌, append_assoc, append-nil, flat_map, map}
use Prim.Native.Nat.{ℕ, ◌+◌, ◌*◌, ◌^◌, ◌≤◌, ◌<◌}
use native.Mathlib.Omega.{arith}
use lib.ListN.{length, take, drop, length-append, length-take, length-map}
use Rattle.part.specs.Part.{part}
use Rattle.outcome.specs.Outcome.{Outcome, answer, refused, ◌>>=◌, ◌>>◌, number_of}
use Rattle.outcome.proofs.OutcomeLaws.{answer_injective, answer_not_refused, bind_answer, bind_refused, map_refused⁻¹}
use Rattle.uleb128.specs.Encoding.{encoding}
use Rattle.uleb128.proofs.EncodingLaws.{encoding-length}
use Rattle.layout.specs.Blocks.{text_bytes, records_bytes}
use Rattle.layout.proofs.ReadBackLaws.{length_text}
use Rattle.sim.specs.Adn.{is_filled, name_of, judged, record_of, imported}
use Rattle.sim.proofs.AdnLaws.{imported_judged, record_short, record_parts}
use Rattle.sim_import.specs.declared.survey.Survey.{Survey}
use Rattle.sim_import.specs.Import.{not_free, occupied, imported_all}
use Rattle.sim_import.specs.Survey.{surveyed, survey_of}
use Rattle.sim_import.specs.Steps.{Whole}
use Rattle.sim_import.proofs.BytesLaws.{bytes_append, bytes_one, text_short}
use Rattle.sim_import.proofs.OccupiedLaws.{
  occupied_end,
  occupied_step,
  whole_step,
  whole_rest,
  imported_append,
  Known,
  some,
  none,
  one_known,
  imported_some,
  known,
  free_one,
  not_free_one,
}

-- ---- one record

pub part_short : (s : List ℕ) (at n : ℕ) → length (part s at n) ≤ n
unfolding part
part_short s at n = let t = length-take n (drop at s) in omega arith

module _ (x : ℕ) (adn : List ℕ) where
  pub survey_free : is_filled adn ≡ true → answer (record { count = 0; length = 0 }) ≡ survey_of (imported_all x (not_free (adn ∷ [])))
  unfolding survey_of surveyed imported_all records_bytes flat_map ◌>>=◌
  survey_free e = rw (free_one adn e)

  -- what stops the import of a record that isn't free stops the pass
  pub survey_refused : (n : ℕ) → is_filled adn ≡ false → n ≡ number_of (imported x adn) → (n ≡ 0 → ⊥)
      → refused n 0 ≡ survey_of (imported_all x (not_free (adn ∷ [])))
  unfolding survey_of imported_all number_of ◌>>=◌
  survey_refused n e f h = rw (not_free_one adn e) (go (one_known x adn))
    where
      go : (imported x adn ≡ answer (record_of x adn)) ⊎ ((n : ℕ) × (n ≡ 0 → ⊥) × (imported x adn ≡ refused n 0))
          → refused n 0 ≡ survey_of (imported x adn >>= λ r. answer [] >>= λ rs. answer (r ∷ rs))
      go (inl i) = absurd (h (f ∙ ap number_of i))
      go (inr r) = rw (f ∙ ap number_of r.2, r.2) refl

  pub survey_some : (size number : ℕ) → is_filled adn ≡ false → 0 ≡ number_of (imported x adn) → length (text_bytes (record_of x adn)) ≡ number + size
      → answer (record { count = 1; length = number + size }) ≡ survey_of (imported_all x (not_free (adn ∷ [])))
  unfolding survey_of surveyed imported_all ◌>>=◌
  survey_some size number e f g = rw (not_free_one adn e, imported_some x adn f, bytes_one (record_of x adn), g)

  -- the same by how its two parts are judged
  pub judged_refused : (n : ℕ) → is_filled adn ≡ false → refused n 0 ≡ judged (take x adn) (drop x adn)
      → refused n 0 ≡ survey_of (imported_all x (not_free (adn ∷ [])))
  unfolding survey_of imported_all ◌>>=◌ ◌>>◌
  judged_refused n e f = rw (not_free_one adn e, imported_judged x adn, ← f)

  pub judged_some : (size number : ℕ) → is_filled adn ≡ false → answer tt ≡ judged (take x adn) (drop x adn)
      → length (text_bytes (record_of x adn)) ≡ number + size
      → answer (record { count = 1; length = number + size }) ≡ survey_of (imported_all x (not_free (adn ∷ [])))
  unfolding survey_of surveyed imported_all ◌>>=◌ ◌>>◌
  judged_some size number e f g = rw (not_free_one adn e, imported_judged x adn, ← f, bytes_one (record_of x adn), g)

  -- its size, in its two parts
  module _ (name rest : List ℕ) (number : ℕ) (e : name ≡ name_of (take x adn)) (f : rest ≡ drop x adn)
      (g : number ≡ length (encoding (length name + length rest))) where
    size_is : length name + length rest ≡ length (record_of x adn)
    size_is = sym (length-append name rest) ∙ ap length (record_parts x adn name rest e f)

    pub size_bytes : length (text_bytes (record_of x adn)) ≡ number + (length name + length rest)
    size_bytes = length_text (record_of x adn) ∙ rw (← size_is, g)

    pub size_small : length adn < 2 ^ 63 → number + (length name + length rest) < 2 ^ 64
    size_small h =
        let short = record_short x adn in
        let size = size_is in
        let few = encoding-length 8 (length name + length rest) (omega arith) in
        omega arith

-- ---- all records

answer_nil : (o : Outcome (List (List ℕ))) → o ≡ (o >>= λ more. answer more)
unfolding ◌>>=◌
answer_nil (answer rs) = refl
answer_nil (refused n p) = refl

-- the records before `at` were passed, with these counts; whole records are left
pub record Surveyed (x : ℕ) (dump : List ℕ) (count size at : ℕ) : Type 0 where
  pub records : List (List ℕ)
  pub goes : imported_all x (occupied x dump) ≡ (imported_all x (occupied x (drop at dump)) >>= λ more. answer (records ++ more))
  pub many : count ≡ length records
  pub total : size ≡ length (records_bytes records)
  pub few : count ≤ at
  pub small : size ≤ 2 * at
  pub whole : Whole x (drop at dump)
  pub within : at ≤ length dump

pub surveyed_none : (x : ℕ) (dump : List ℕ) → Whole x dump → Surveyed x dump 0 0 0
unfolding records_bytes flat_map
surveyed_none x dump w = record {
  records = [];
  goes = answer_nil (imported_all x (occupied x dump));
  many = refl;
  total = refl;
  few = omega arith;
  small = omega arith;
  whole = w;
  within = omega arith;
}

joined : (o : Outcome (List (List ℕ))) (a b : List (List ℕ))
    → ((o >>= λ qs. answer (b ++ qs)) >>= λ more. answer (a ++ more)) ≡ (o >>= λ more. answer ((a ++ b) ++ more))
unfolding ◌>>=◌
joined (answer qs) a b = rw (append_assoc a b qs)
joined (refused n p) a b = refl

-- the counts of at most one record
one_small : (x : ℕ) (adn : List ℕ) → x < 256 → length adn ≤ x + 14
    → (length (not_free (adn ∷ [])) ≤ 1) × (length (records_bytes (map (record_of x) (not_free (adn ∷ [])))) ≤ 2 * (x + 14))
unfolding records_bytes flat_map
one_small x adn h l = go (is_filled adn) refl
  where
    go : (b : Bool) → is_filled adn ≡ b → (length (not_free (adn ∷ [])) ≤ 1) × (length (records_bytes (map (record_of x) (not_free (adn ∷ [])))) ≤ 2 * (x + 14))
    go true e = rw (free_one adn e) (omega arith, omega arith)
    go false e = rw (not_free_one adn e, bytes_one (record_of x adn))
        (omega arith, (let n = record_short x adn in omega (arith, text_short (record_of x adn) (omega arith))))

module _ (x : ℕ) (dump : List ℕ) (count size at : ℕ) (s : Surveyed x dump count size at) where
  -- nothing is left
  pub surveyed_all : length dump ≤ at → answer (record { count = count; length = size }) ≡ survey_of (imported_all x (occupied x dump))
  unfolding survey_of surveyed imported_all records_bytes ◌>>=◌
  surveyed_all h =
      rw (s.many, s.total, s.goes, occupied_end x dump at h, append-nil s.records)

  module _ (h : at < length dump) where
    abbrev rest : Outcome (List (List ℕ))
    rest = imported_all x (occupied x (drop (at + (x + 14)) dump))

    abbrev one : List (List ℕ)
    one = not_free (part dump at (x + 14) ∷ [])

    here : imported_all x (occupied x (drop at dump)) ≡ (imported_all x one >>= λ rs. rest >>= λ qs. answer (rs ++ qs))
    here = ap (imported_all x) (occupied_step x dump at h) ∙ imported_append x one (occupied x (drop (at + (x + 14)) dump))

    -- a refusal is that of all
    pub surveyed_refused : (n : ℕ) → refused n 0 ≡ survey_of (imported_all x (not_free (part dump at (x + 14) ∷ [])))
        → refused n 0 ≡ survey_of (imported_all x (occupied x dump))
    unfolding survey_of
    surveyed_refused n e =
        let this = map_refused⁻¹ (imported_all x one) surveyed n 0 (sym e) in
        sym (bind_refused _ _ n 0 (s.goes ∙ bind_refused _ _ n 0 (here ∙ bind_refused _ _ n 0 this)))

    -- one more, or none
    pub surveyed_more : (more : Survey) → x < 256 → answer more ≡ survey_of (imported_all x (not_free (part dump at (x + 14) ∷ [])))
        → Surveyed x dump (count + more.count) (size + more.length) (at + (x + 14))
    unfolding survey_of surveyed ◌>>=◌
    surveyed_more more l e = go (imported_all x one) (known x one) refl
      where
        go : (o : Outcome (List (List ℕ))) → Known x one o → imported_all x one ≡ o
            → Surveyed x dump (count + more.count) (size + more.length) (at + (x + 14))
        go o (none m k) q = absurd (answer_not_refused more m 0 (e ∙ ap survey_of q))
        go o some q =
            let qs : List (List ℕ) = map (record_of x) one in
            let same : more ≡ surveyed qs = answer_injective more (surveyed qs) (e ∙ ap survey_of q) in
            let many : more.count ≡ length qs = ap (λ (t : Survey). t.count) same in
            let total : more.length ≡ length (records_bytes qs) = ap (λ (t : Survey). t.length) same in
            let small = one_small x (part dump at (x + 14)) l (part_short dump at (x + 14)) in
            let count_small : length qs ≤ 1 = rw length-map small.0 in
            let size_small : length (records_bytes qs) ≤ 2 * (x + 14) = small.1 in
            record {
              records = s.records ++ qs;
              goes =
                  s.goes ∙ ap (λ (o : Outcome (List (List ℕ))). o >>= λ more. answer (s.records ++ more)) (here ∙ bind_answer _ _ qs q)
                  ∙ joined rest s.records qs;
              many = rw length-append (omega (arith, s.many));
              total = rw (bytes_append s.records qs, length-append) (omega (arith, s.total));
              few = omega (arith, s.few);
              small = omega (arith, s.small);
              whole = whole_rest x dump at s.whole h;
              within = whole_step x dump at s.whole h;
            }
