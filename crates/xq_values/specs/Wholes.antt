-- Numbers of few digits. This follows the code: only private functions speak of it.
use Rattle.std.specs.Prelude.{◌≡◌, ◌<◌, ℕ, true, List, length}
use Rattle.std.specs.List.{list_all}
use Rattle.gcx_model.specs.Values.{digits_from, is_digit_byte}

-- the text is some digits that write n
pub record IsWhole (text : List ℕ) (n : ℕ) : Type 0 where
  pub some : 0 < length text
  pub digits : list_all is_digit_byte text ≡ true
  pub value : n ≡ digits_from 0 text
