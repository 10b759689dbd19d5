-- Lists: the elements that pass a test, and whether any or all do.
use Rattle.std.specs.Prelude.{Bool, true, false, ◌&&◌, ◌||◌, cond, List, [], ◌∷◌}

module _ {A : Type 0} (test : A → Bool) where
  -- the elements that pass the test, in their order
  unfoldable pub keep : List A → List A
  keep [] = []
  keep (x ∷ xs) = cond (test x) (x ∷ keep xs) (keep xs)

  -- some element passes the test
  unfoldable pub any : List A → Bool
  any [] = false
  any (x ∷ xs) = test x || any xs

  -- every element passes the test
  unfoldable pub all : List A → Bool
  all [] = true
  all (x ∷ xs) = test x && all xs
