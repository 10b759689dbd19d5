-- Laws of the header for its callers: what an accepted header says, that it depends on nothing after it, and which
-- refusals there are.
-- Assumes nothing.
use mathlib.Core.Path.{◌≡◌, sym, ap, ◌∙◌}
use mathlib.Core.Bool.{Bool, true, false}
use mathlib.Core.List.{List}
use Prim.Native.Nat.{ℕ, ◌+◌, ◌-◌, ◌^◌, ◌≤◌}
use native.Mathlib.Omega.{arith}
use lib.Dec.{lit≤}
use lib.ListN.{length, take, drop}
use borrow.Author.Tests.{leb-true, eqb-true, not-true}
use Rattle.byte_string.specs.Order.{begins}
use Rattle.byte_string.proofs.PrefixLaws.{begins_front}
use Rattle.endian.specs.FixedWidth.{little_endian}
use Rattle.outcome.specs.Outcome.{Outcome, answer, refused, ◌>>◌, must}
use Rattle.part.specs.Part.{part}
use Rattle.outcome.proofs.OutcomeLaws.{must⁻¹, kept⁻¹, passed⁻¹, answer_injective, answer_not_refused}
use Rattle.part.proofs.PartLaws.{drop-take, part_front}
use Rattle.header.specs.declared.Header.{Header}
use Rattle.header.specs.Metadata.{Metadata}
use Rattle.header.specs.Header.{magic, unfinished_magic, codec_none, field_at, H, M, header_crc_right}
use Rattle.header.specs.Header.{header_numbers, fields_of, data_of, size_rule, front_rules, header_of, blocks_from}
use Rattle.header.proofs.MetadataLaws.{is_metadata⇒Metadata, Metadata⇒is_metadata}
use Rattle.header.proofs.RuleLaws.{Opened, holds_header⁻¹, holds_header_of, holds_metadata⁻¹, holds_metadata_of, fields_good, data_fields, header_data_lem}

-- ---- an accepted header

-- what an accepted header says of the file, and its numbers
pub record IsHeader (file : List ℕ) (h : Header) : Type 0 where
  pub small : length file ≤ 2 ^ 30
  pub finished : begins unfinished_magic file ≡ false
  pub opens : begins magic file ≡ true
  pub long : 16 ≤ length file
  pub whole : 24 + H file ≤ length file
  pub crc : header_crc_right file ≡ true
  pub fields : 80 ≤ H file
  pub room : M file ≤ H file - 80
  pub codec : begins codec_none (drop 72 file) ≡ true
  pub total : field_at file 32 ≡ length file
  pub metadata_rule : Metadata (part file 96 (M file))
  pub is_blocks : h.blocks ≡ 24 + H file
  pub is_root_lem : h.root ≡ field_at file 16
  pub is_rootsize : h.rootsize ≡ field_at file 24
  pub is_metadata_lem : h.metadata ≡ M file

-- a header is its four numbers
same_numbers : (file : List ℕ) (h : Header) → h.blocks ≡ 24 + H file → h.root ≡ field_at file 16 → h.rootsize ≡ field_at file 24 → h.metadata ≡ M file
    → header_numbers file ≡ h
unfolding header_numbers
same_numbers file h e r s m = rw (← e, ← r, ← s, ← m)

-- an accepted header taken apart
pub is_header : (file : List ℕ) (h : Header) → header_of file ≡ answer h → IsHeader file h
unfolding header_of size_rule front_rules data_of fields_of header_numbers
is_header file h e =
    let size = passed⁻¹ _ _ h e in
    let front = passed⁻¹ _ _ h size.1 in
    let unfinished = kept⁻¹ _ _ _ _ tt front.0 in
    let begun = kept⁻¹ _ _ _ _ tt unfinished.1 in
    let crc = kept⁻¹ _ _ _ _ h front.1 in
    let room = kept⁻¹ _ _ _ _ h crc.1 in
    let codec = kept⁻¹ _ _ _ _ h room.1 in
    let total = kept⁻¹ _ _ _ _ h codec.1 in
    let metadata = kept⁻¹ _ _ _ _ h total.1 in
    let numbers = answer_injective _ h metadata.1 in
    let whole = holds_header⁻¹ file (must⁻¹ _ _ _ begun.1) in
    let fields = holds_metadata⁻¹ file room.0 in
    record {
      small = leb-true (length file) (2 ^ 30) (must⁻¹ _ _ _ size.0);
      finished = not-true (begins unfinished_magic file) unfinished.0;
      opens = begun.0;
      long = whole.0;
      whole = whole.1;
      crc = crc.0;
      fields = fields.0;
      room = fields.1;
      codec = codec.0;
      total = eqb-true (field_at file 32) (length file) total.0;
      metadata_rule = is_metadata⇒Metadata (part file 96 (M file)) metadata.0;
      is_blocks = sym (ap (λ (x : Header). x.blocks) numbers);
      is_root_lem = sym (ap (λ (x : Header). x.root) numbers);
      is_rootsize = sym (ap (λ (x : Header). x.rootsize) numbers);
      is_metadata_lem = sym (ap (λ (x : Header). x.metadata) numbers);
    }

-- and the other way round
pub header_is : (file : List ℕ) (h : Header) → IsHeader file h → header_of file ≡ answer h
header_is file h i =
    let opened : Opened file = record { small = i.small; finished = i.finished; opens = i.opens } in
    let metadata = Metadata⇒is_metadata (part file 96 (M file)) i.metadata_rule in
    header_data_lem file opened (holds_header_of file i.long i.whole)
    ∙ data_fields file i.crc (holds_metadata_of file i.fields i.room)
    ∙ fields_good file i.codec i.total metadata
    ∙ ap answer (same_numbers file h i.is_blocks i.is_root_lem i.is_rootsize i.is_metadata_lem)

-- ---- the blocks begin after the header data and their CRC, within the file

pub blocks_from_lem : (file : List ℕ) (h : Header) → header_of file ≡ answer h → blocks_from h ≡ 24 + H file
unfolding blocks_from
blocks_from_lem file h e = (is_header file h e).is_blocks

pub blocks_within : (file : List ℕ) (h : Header) → header_of file ≡ answer h → blocks_from h ≤ length file
blocks_within file h e = rw (blocks_from_lem file h e) (is_header file h e).whole

-- ---- the header depends on nothing after it

-- two files with the same bytes up to an end: what lies in front of it is the same
module _ (file t : List ℕ) (end : ℕ) (same : take end t ≡ take end file) where
  pub begins-same : (p : List ℕ) (at : ℕ) → at + length p ≤ end → begins p (drop at t) ≡ begins p (drop at file)
  begins-same p at h = front t ∙ ap (begins p) cut ∙ sym (front file)
    where
      front : (l : List ℕ) → begins p (drop at l) ≡ begins p (take (end - at) (drop at l))
      front l = sym (begins_front p (drop at l) (end - at) (omega arith))

      cut : take (end - at) (drop at t) ≡ take (end - at) (drop at file)
      cut = sym (drop-take at end t) ∙ ap (drop at) same ∙ drop-take at end file

  pub field_at_same : (at : ℕ) → at + 8 ≤ end → field_at t at ≡ field_at file at
  unfolding field_at
  field_at_same at h = ap little_endian (part_front t file end same at 8 h)

  pub H-same : 16 ≤ end → H t ≡ H file
  unfolding H
  H-same h = field_at_same 8 h

  pub M-same : 96 ≤ end → M t ≡ M file
  unfolding M
  M-same h = field_at_same 88 h

  pub header_crc_right-same : 24 + H file ≤ end → header_crc_right t ≡ header_crc_right file
  unfolding header_crc_right
  header_crc_right-same h =
      rw (H-same (omega arith), field_at_same (16 + H file) (omega arith), part_front t file end same 16 (H file) (omega arith))

  pub metadata_same : 96 + M file ≤ end → part t 96 (M t) ≡ part file 96 (M file)
  metadata_same h = ap (part t 96) (M-same (omega arith)) ∙ part_front t file end same 96 (M file) h

-- a file of the same length with the same bytes up to the first block has the same header
pub header_local : (file t : List ℕ) (h : Header) → header_of file ≡ answer h → length t ≡ length file
    → take (24 + H file) t ≡ take (24 + H file) file → header_of t ≡ answer h
unfolding magic unfinished_magic codec_none
header_local file t h e long same = header_is t h (moved (is_header file h e))
  where
    moved : IsHeader file h → IsHeader t h
    moved i =
        let end = 24 + H file in
        let enough = i.fields in
        let extent = H-same file t end same (omega arith) in
        let metadata = M-same file t end same (omega arith) in
        record {
          small = rw long i.small;
          finished = begins-same file t end same unfinished_magic 0 (omega arith) ∙ i.finished;
          opens = begins-same file t end same magic 0 (omega arith) ∙ i.opens;
          long = rw long i.long;
          whole = rw (long, extent) i.whole;
          crc = header_crc_right-same file t end same (omega arith) ∙ i.crc;
          fields = rw extent i.fields;
          room = rw (extent, metadata) i.room;
          codec = begins-same file t end same codec_none 72 (omega arith) ∙ i.codec;
          total = field_at_same file t end same 32 (omega arith) ∙ i.total ∙ sym long;
          metadata_rule = rw (metadata_same file t end same (let r = i.room in omega arith)) i.metadata_rule;
          is_blocks = i.is_blocks ∙ ap (◌+◌ 24) (sym extent);
          is_root_lem = i.is_root_lem ∙ sym (field_at_same file t end same 16 (omega arith));
          is_rootsize = i.is_rootsize ∙ sym (field_at_same file t end same 24 (omega arith));
          is_metadata_lem = i.is_metadata_lem ∙ sym metadata;
        }

-- ---- refusals

-- every refusal of an outcome has place 0 and a number from 1 to 9
abbrev Numbered : {A : Type 0} → Outcome A → Type 0
Numbered o = (n p : ℕ) → o ≡ refused n p → (p ≡ 0) × (1 ≤ n) × (n ≤ 9)

numbered_answer : {A : Type 0} (a : A) → Numbered (answer a)
numbered_answer a n p e = absurd (answer_not_refused a n p e)

numbered_must : (b : Bool) (number : ℕ) → 1 ≤ number → number ≤ 9 → Numbered (must b number 0)
unfolding must
numbered_must true number low high n p e = numbered_answer tt n p e
numbered_must false number low high n p e =
    let same : n ≡ number = cc in
    let none : p ≡ 0 = cc in
    (none, omega arith, omega arith)

numbered_after : {A B : Type 0} (o : Outcome A) (next : Outcome B) → Numbered o → Numbered next → Numbered (o >> next)
unfolding ◌>>◌
numbered_after (answer a) next first rest n p e = rest n p e
numbered_after (refused number place) next first rest n p e = first n p (cc)

numbered_rule : {A : Type 0} (b : Bool) (number : ℕ) (o : Outcome A) → 1 ≤ number → number ≤ 9 → Numbered o → Numbered (must b number 0 >> o)
numbered_rule b number o low high rest = numbered_after (must b number 0) o (numbered_must b number low high) rest

-- every refusal of the header has place 0 and a number from 1 to 9
pub header_refused : (file : List ℕ) (n p : ℕ) → header_of file ≡ refused n p → (p ≡ 0) × (1 ≤ n) × (n ≤ 9)
unfolding header_of size_rule front_rules data_of fields_of
header_refused file =
    numbered_rule _ 1 _ (lit≤ tt) (lit≤ tt)
    (numbered_after _ _
    (numbered_rule _ 2 _ (lit≤ tt) (lit≤ tt)
    (numbered_rule _ 3 _ (lit≤ tt) (lit≤ tt)
    (numbered_must _ 4 (lit≤ tt) (lit≤ tt))))
    (numbered_rule _ 5 _ (lit≤ tt) (lit≤ tt)
    (numbered_rule _ 6 _ (lit≤ tt) (lit≤ tt)
    (numbered_rule _ 7 _ (lit≤ tt) (lit≤ tt)
    (numbered_rule _ 8 _ (lit≤ tt) (lit≤ tt)
    (numbered_rule _ 9 _ (lit≤ tt) (lit≤ tt)
    (numbered_answer _)))))))
