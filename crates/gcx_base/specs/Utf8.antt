-- Where bytes are no UTF-8 (Unicode, section 3.9).
use Rattle.std.specs.Prelude.{ℕ, ◌≡◌, ◌<◌, List, ◌++◌, length}
use Rattle.std.specs.Char.{IsScalar, encode_utf8}
use Rattle.std.specs.Str.{StartsWithNoChar}

-- the bytes are a proper front of one character; none at all are one too
pub record IsCharFront (bs : List ℕ) : Type 0 where
  pub c : ℕ
  pub rest : List ℕ
  pub scalar : IsScalar c
  pub bytes : encode_utf8 c ≡ bs ++ rest
  pub more : 0 < length rest

-- no character begins the bytes, and none would with more of them
pub record IsNotUtf8 (bs : List ℕ) : Type 0 where
  pub no_char : StartsWithNoChar bs
  pub no_front : ¬ (IsCharFront bs)
