-- Laws of the part that the metadata are.
-- Assumes nothing.
use mathlib.Core.Path.{◌≡◌, refl, sym, ap, subst}
use mathlib.Core.List.{List}
use Prim.Native.Nat.{ℕ, ◌+◌, ◌≤◌}
use native.Mathlib.Omega.{arith}
use lib.ListN.{length}
use Rattle.outcome.specs.Outcome.{Outcome, answer, refused}
use Rattle.part.specs.Part.{part}
use Rattle.part.proofs.PartLaws.{length_part}
use Rattle.header.specs.declared.Header.{Header}
use Rattle.header.specs.Metadata.{Metadata}
use Rattle.header.specs.Header.{header_of}
use Rattle.header.specs.MetadataPart.{metadata_in, metadata_part, HoldsMetadata}
use Rattle.header.proofs.HeaderLaws.{is_header}
use Rattle.header.proofs.MetadataLaws.{metadata_long}

-- a sound header: the part lies within the file, and its bytes are those that the metadata rule is about
pub metadata_sound : (file : List ℕ) (h : Header) → header_of file ≡ answer h → HoldsMetadata file (metadata_part file)
unfolding metadata_part metadata_in
metadata_sound file h e = subst (λ (o : Outcome Header). HoldsMetadata file (metadata_in o)) (sym e) held
  where
    held : HoldsMetadata file (record { offset = 96; length = h.metadata })
    held =
        let i = is_header file h e in
        let room = i.room in
        let whole = i.whole in
        let long = i.is_metadata_lem in
        record {
          begins = refl;
          long = long;
          within = omega (arith, i.fields);
          rule = subst (λ (n : ℕ). Metadata (part file 96 n)) (sym long) i.metadata_rule;
        }

-- any other header: the empty part at 0
pub metadata_refused : (file : List ℕ) (number place : ℕ) → header_of file ≡ refused number place → metadata_part file ≡ record { offset = 0; length = 0 }
unfolding metadata_part metadata_in
metadata_refused file number place e = ap metadata_in e

-- so it always lies within the file
pub metadata_fits : (file : List ℕ) → (metadata_part file).offset + (metadata_part file).length ≤ length file
metadata_fits file = go (header_of file) refl
  where
    go : (o : Outcome Header) → header_of file ≡ o → (metadata_part file).offset + (metadata_part file).length ≤ length file
    go (answer h) e = (metadata_sound file h e).within
    go (refused number place) e = rw (metadata_refused file number place e) (omega arith)

-- metadata have two bytes or more
pub metadata_some : (file : List ℕ) (h : Header) → header_of file ≡ answer h → 2 ≤ (metadata_part file).length
metadata_some file h e =
    let held = metadata_sound file h e in
    let p = metadata_part file in
    subst (λ (n : ℕ). 2 ≤ n) (length_part file p.offset p.length held.within) (metadata_long _ held.rule)

-- so no bytes mean that the header is refused
pub metadata_none : (file : List ℕ) → (metadata_part file).length ≡ 0 → (number : ℕ) × (place : ℕ) × (header_of file ≡ refused number place)
metadata_none file none = go (header_of file) refl
  where
    go : (o : Outcome Header) → header_of file ≡ o → (number : ℕ) × (place : ℕ) × (header_of file ≡ refused number place)
    go (answer h) e = absurd (let some = metadata_some file h e in omega arith)
    go (refused number place) e = (number, place, e)
