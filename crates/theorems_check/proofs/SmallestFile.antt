-- The smallest file of docs/FORMAT.md keeps the rules: one data block with one empty record, and the root with one entry.
-- Assumes nothing.
use mathlib.Core.Path.{◌≡◌, refl}
use mathlib.Core.List.{List, [], ◌∷◌, flat_map}
use Prim.Native.Nat.{ℕ}
use native.Mathlib.Omega.{arith}
use lib.ListN.{length}
use Rattle.byte_string.specs.Order.{order, at_most, begins}
use Rattle.endian.specs.FixedWidth as fixed
use Rattle.uleb128.specs.Number.{continuing, sevens, reading}
use Rattle.crc64.specs.Crc64 as crc
use Rattle.sha256_block.specs.Compression as compression
use Rattle.sha256.specs.Sha256 as sha
use Rattle.outcome.specs.Outcome.{Outcome, answer, refused, ◌>>=◌, ◌>>◌, must, count_of}
use Rattle.part.specs.Part.{part}
use Rattle.items.specs.Items.{items_from}
use Rattle.lists.specs.Lists.{keep, any, all}
use Rattle.utf8.specs.Utf8 as utf8
use Rattle.json_grammar.specs.Recogniser as json
use Rattle.header.specs.Header as head
use Rattle.header.specs.Metadata as meta
use Rattle.framing.specs.Frame as frame
use Rattle.payload.specs.Payload as payload
use Rattle.block.specs.Block as block
use Rattle.block.specs.Block.{Block}
use Rattle.block.specs.Survey as survey
use Rattle.tree.specs.Tree as tree
use Rattle.tree.specs.Stages as stages
use Rattle.checker.specs.Check.{check_with, accept_of}
use Rattle.theorems_check.specs.Rules.{Rules}
use Rattle.theorems_check.proofs.AcceptLaws.{accepted⇒Rules}

-- 130 bytes: the magic, the header's fields, metadata `{}`, the CRC, and two blocks at 106 and 117
unfoldable pub smallest_file : List ℕ
smallest_file =
    0xab ∷ 0x5a ∷ 0x53 ∷ 0x66 ∷ 0x69 ∷ 0x4c ∷ 0x65 ∷ 0x01 ∷
    0x52 ∷ 0x00 ∷ 0x00 ∷ 0x00 ∷ 0x00 ∷ 0x00 ∷ 0x00 ∷ 0x00 ∷
    0x75 ∷ 0x00 ∷ 0x00 ∷ 0x00 ∷ 0x00 ∷ 0x00 ∷ 0x00 ∷ 0x00 ∷
    0x0d ∷ 0x00 ∷ 0x00 ∷ 0x00 ∷ 0x00 ∷ 0x00 ∷ 0x00 ∷ 0x00 ∷
    0x82 ∷ 0x00 ∷ 0x00 ∷ 0x00 ∷ 0x00 ∷ 0x00 ∷ 0x00 ∷ 0x00 ∷
    0x6e ∷ 0x34 ∷ 0x0b ∷ 0x9c ∷ 0xff ∷ 0xb3 ∷ 0x7a ∷ 0x98 ∷ 0x9c ∷ 0xa5 ∷ 0x44 ∷ 0xe6 ∷ 0xbb ∷ 0x78 ∷ 0x0a ∷ 0x2c ∷
    0x78 ∷ 0x90 ∷ 0x1d ∷ 0x3f ∷ 0xb3 ∷ 0x37 ∷ 0x38 ∷ 0x76 ∷ 0x85 ∷ 0x11 ∷ 0xa3 ∷ 0x06 ∷ 0x17 ∷ 0xaf ∷ 0xa0 ∷ 0x1d ∷
    0x6e ∷ 0x6f ∷ 0x6e ∷ 0x65 ∷ 0x00 ∷ 0x00 ∷ 0x00 ∷ 0x00 ∷ 0x00 ∷ 0x00 ∷ 0x00 ∷ 0x00 ∷ 0x00 ∷ 0x00 ∷ 0x00 ∷ 0x00 ∷
    0x02 ∷ 0x00 ∷ 0x00 ∷ 0x00 ∷ 0x00 ∷ 0x00 ∷ 0x00 ∷ 0x00 ∷
    0x7b ∷ 0x7d ∷
    0x9d ∷ 0x1a ∷ 0xa8 ∷ 0xb3 ∷ 0x53 ∷ 0xc4 ∷ 0x52 ∷ 0x7e ∷
    0x02 ∷ 0x00 ∷ 0x00 ∷
    0x87 ∷ 0x5a ∷ 0x4a ∷ 0x51 ∷ 0x97 ∷ 0x4d ∷ 0x10 ∷ 0x42 ∷
    0x04 ∷ 0x01 ∷ 0x00 ∷ 0x6a ∷ 0x0b ∷
    0x9c ∷ 0xc4 ∷ 0x01 ∷ 0x24 ∷ 0x89 ∷ 0x27 ∷ 0x29 ∷ 0x21 ∷ []

-- it is accepted, with two blocks; by computation
two_blocks : count_of length (accept_of smallest_file) ≡ 2
unfolding smallest_file count_of accept_of check_with head.header_of head.size_rule head.front_rules head.data_of head.fields_of head.header_numbers
    head.blocks_from ◌>>=◌ ◌>>◌ must head.magic head.unfinished_magic
    head.codec_none head.field_at meta.is_metadata utf8.is_utf8 utf8.utf8_from utf8.due_after json.is_object json.is_done json.object_end json.object_over
    json.structural_end json.container_end json.skip_while json.is_space json.one_of json.◌>>=◌ head.H head.M head.holds_header head.header_crc_right
    head.holds_metadata part items_from keep any all
    order at_most begins fixed.little_endian continuing sevens reading crc.crc64 crc.crc_of crc.register_start crc.register crc.byte_step
    crc.bit_steps crc.bit_step
    crc.all_ones crc.polynomial crc.reversed frame.read_as frame.number_at frame.framed frame.frame_at frame.crc_right frame.sound_frame_at payload.text_at
    payload.entry_sized payload.entry_at payload.rising_from payload.rising payload.payload_at payload.records_at payload.entries_at block.is_data
    block.is_ordinary block.block_in block.block_at block.block_step block.blocks_at survey.ordinary survey.records_of survey.is_root stages.each
    stages.entries_fit stages.named_rightly stages.ascending stages.all_at_most stages.neighbours_of stages.neighbours stages.keys_fit stages.payloads
    stages.naming_of stages.walk_rules_of stages.hash_rule_of stages.tree_of stages.has_root tree.block_entries tree.block_records tree.block_level tree.names
    tree.namings tree.leaves tree.under tree.records_before tree.key_fits compression.add compression.complement compression.rotr compression.shr
    compression.Ch compression.Maj compression.Σ₀ compression.Σ₁ compression.σ₀ compression.σ₁ compression.K compression.words_of compression.next_word
    compression.extended compression.schedule compression.round compression.rounds compression.sums compression.compress compression.compress_blocks
    compression.over sha.initial sha.padding sha.digest sha.sha256 fixed.big_endian fixed.little_bytes fixed.big_bytes flat_map
two_blocks = refl

answered : (o : Outcome (List Block)) → count_of length o ≡ 2 → (bs : List Block) × (o ≡ answer bs)
unfolding count_of
answered (answer bs) e = (bs, refl)
answered (refused number place) e = absurd (omega arith)

pub smallest_accepted : (bs : List Block) × (accept_of smallest_file ≡ answer bs)
smallest_accepted = answered (accept_of smallest_file) two_blocks

pub smallest_keeps : (bs : List Block) × Rules smallest_file bs
smallest_keeps = let a = smallest_accepted in (a.0, accepted⇒Rules smallest_file a.0 a.1)
