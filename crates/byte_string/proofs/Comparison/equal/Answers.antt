-- `Comparison::equal` meets its contract: the bits of the sign are those of 0 exactly if it is neither below nor above 0.
-- Assumes nothing.
use Prim.Native.Nat.{zero, suc, ◌-◌}
use native.Mathlib.Omega.{arith}
use mathlib.Core.Path.{◌≡◌, refl}
use mathlib.Core.Bool.{◌&&◌, not}
use lib.Dec.{leb-suc-zero, eqb}
use lib.IntN.{ℤ, pos, negsuc}
use lib.Signed.{lt_z, le_z}
use mir.Syntax.{w8}
use mir.Val.{SFits, of_z}
use borrow.Author.Rules.{rules}
use borrow.Author.Tests.{ne_eqb}
use Rattle.byte_string.specs.Order.{says_less, says_at_most, says_equal}
use Rattle.byte_string.proofs.Comparison.equal.Goals as goal

bits-zero : (z : ℤ) → SFits w8 z → eqb (of_z w8 z) 0 ≡ (le_z z (pos 0) && not (lt_z z (pos 0)))
bits-zero (pos zero) h = refl
bits-zero (pos (suc n)) h = rw (leb-suc-zero n) (ne_eqb (suc n) 0 (omega arith))
bits-zero (negsuc n) h =
    let small = h.sfits in
    ne_eqb (256 - suc n) 0 (omega arith)

pub returns : goal.returns
unfolding says_equal says_at_most says_less
returns c = bits-zero c.args.self.sign (search rules)
