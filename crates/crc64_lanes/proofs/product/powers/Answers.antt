-- `powers` meets its contract: one test over all of them, which is computed here.
-- Assumes nothing.
use mathlib.Core.Path.{refl}
use Rattle.crc64_register.specs.Crc64.{reversed, polynomial, bit_step, bit_steps}
use Rattle.crc64_lanes.specs.Product.{shifted, product_from, product, are_squares, are_powers}
use Rattle.crc64_lanes.proofs.product.powers.Goals as goal

pub returns : goal.returns
unfolding are_powers are_squares product product_from shifted bit_steps bit_step polynomial reversed
returns c = refl
