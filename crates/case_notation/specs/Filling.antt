-- What is put into a buffer from its front on, as much of it as there is room for.
-- Assumes nothing.
use Rattle.std.specs.Prelude.{ℕ, ◌≡◌, cond, Option, Some, None, List, ◌++◌, leb, length, take, drop}

-- the elements stand at the front of the buffer, those beyond its end are left out, and the answer is
-- how many there are, if the buffer has room for all
pub record Filled {A : Type 0} (before elements after : List A) (count : Option ℕ) : Type 0 where
  pub stored : after ≡ take (length before) elements ++ drop (length elements) before
  pub counted : count ≡ cond (leb (length elements) (length before)) (Some (length elements)) None
