-- The documents that are made from a number (this project's).
use Rattle.std.specs.Prelude.{ℕ, zero, suc, ◌+◌, ◌*◌, ◌%◌, List, [], ◌++◌, codes, decimal, drop, length}

-- a number in seven digits, with zeros in front
abbrev pub seven_digits : ℕ → List ℕ
seven_digits n = drop (length (decimal n)) (codes "0000000") ++ decimal n

abbrev pub price_of : (seed index : ℕ) → ℕ
price_of seed index = (seed + 37 * index) % 100

abbrev pub price_text : (seed index : ℕ) → List ℕ
price_text seed index = codes "<price>" ++ (decimal (price_of seed index) ++ codes "</price>")

abbrev pub note_text : (index : ℕ) → List ℕ
note_text index = codes "<note>" ++ (seven_digits index ++ codes "</note>")

abbrev pub item : (seed index : ℕ) → List ℕ
item seed index = codes "<item>" ++ (price_text seed index ++ (note_text index ++ codes "</item>"))

-- so many items, from this number on
abbrev pub items : (seed from count : ℕ) → List ℕ
items seed from zero = []
items seed from (suc count) = item seed from ++ items seed (suc from) count

-- the document of `gen SEED N`
abbrev pub document : (seed count : ℕ) → List ℕ
document seed count = codes "<items>" ++ (items seed 0 count ++ codes "</items>")
