-- Items piece by piece.
use Rattle.std.proofs.Common.{◌≡◌, ℕ, zero, suc, ◌+◌, ◌-◌, ◌<◌, ◌≤◌, List, [], ◌∷◌, ◌++◌, refl, sym, ap, subst, ◌∙◌, arith, append_assoc, append-nil, codes}
use Rattle.gcx_io.specs.Views.{SinkView}
use Rattle.gcx_io.specs.Writing.{Takes, Owes}
use Rattle.run_words.proofs.Joining.{takes_then, owes_then, owes_more, owes_less}
use Rattle.run_words.specs.Writing.{TakesFront}
use Rattle.gcx_gen.specs.Generated.{item, items, document}

-- items in two parts
pub items_on : (seed from a b : ℕ) → items seed from a ++ items seed (from + a) b ≡ items seed from (a + b)
items_on seed from zero b = ap (λ (k : ℕ). items seed k b) (the_same from) ∙ ap (λ (n : ℕ). items seed from n) (none_more b)
  where
    the_same : (k : ℕ) → k + 0 ≡ k
    the_same k = omega arith

    none_more : (n : ℕ) → n ≡ 0 + n
    none_more n = omega arith
items_on seed from (suc a) b =
    let more : from + suc a ≡ suc from + a = omega arith in
    let all : suc (a + b) ≡ suc a + b = omega arith in
    append_assoc (item seed from) (items seed (suc from) a) (items seed (from + suc a) b)
    ∙ ap (λ (k : ℕ). item seed from ++ (items seed (suc from) a ++ items seed k b)) more
    ∙ ap (λ (l : List ℕ). item seed from ++ l) (items_on seed (suc from) a b)
    ∙ ap (λ (n : ℕ). items seed from n) all

pub items_to : (seed from at to : ℕ) → from ≤ at → at ≤ to → items seed from (at - from) ++ items seed at (to - at) ≡ items seed from (to - from)
items_to seed from at to low high =
    let there : at ≡ from + (at - from) = omega arith in
    let both : (at - from) + (to - at) ≡ to - from = omega arith in
    ap (λ (k : ℕ). items seed from (at - from) ++ items seed k (to - at)) there ∙ items_on seed from (at - from) (to - at) ∙ ap (λ (n : ℕ). items seed from n) both

-- the same from the first one
pub items_first : (seed at to : ℕ) → at ≤ to → items seed 0 at ++ items seed at (to - at) ≡ items seed 0 to
items_first seed at to high =
    let there : at ≡ 0 + at = omega arith in
    let both : at + (to - at) ≡ to = omega arith in
    ap (λ (k : ℕ). items seed 0 at ++ items seed k (to - at)) there ∙ items_on seed 0 at (to - at) ∙ ap (λ (n : ℕ). items seed 0 n) both

-- one item behind others
pub item_to : (seed from index : ℕ) → from ≤ index → items seed from (index - from) ++ item seed index ≡ items seed from ((index + 1) - from)
item_to seed from index low =
    let one : (index + 1) - index ≡ 1 = omega arith in
    ap (λ (l : List ℕ). items seed from (index - from) ++ l) (sym (append-nil (item seed index)))
    ∙ ap (λ (n : ℕ). items seed from (index - from) ++ items seed index n) (sym one)
    ∙ items_to seed from index (index + 1) low (omega arith)

-- pieces, one behind the other
pub three_on : (a b c d x y z : List ℕ) → b ≡ a ++ x → c ≡ b ++ y → d ≡ c ++ z → d ≡ a ++ (x ++ (y ++ z))
three_on a b c d x y z first second third =
    third ∙ ap (λ (l : List ℕ). l ++ z) (second ∙ ap (λ (l : List ℕ). l ++ y) first)
    ∙ append_assoc (a ++ x) y z ∙ append_assoc a x (y ++ z)

pub four_on : (a b c d e w x y z : List ℕ) → b ≡ a ++ w → c ≡ b ++ x → d ≡ c ++ y → e ≡ d ++ z → e ≡ a ++ (w ++ (x ++ (y ++ z)))
four_on a b c d e w x y z first second third fourth =
    fourth ∙ ap (λ (l : List ℕ). l ++ z) (three_on a b c d w x y first second third)
    ∙ append_assoc a (w ++ (x ++ y)) z ∙ ap (λ (l : List ℕ). a ++ l) (append_assoc w (x ++ y) z ∙ ap (λ (l : List ℕ). w ++ l) (append_assoc x y z))

-- what was written before the item of this number
abbrev pub Written : (before now : SinkView) → (seed at : ℕ) → Type 0
Written before now seed at = Takes before now (codes "<items>" ++ items seed 0 at)

-- the document is what was written before an item, and what comes behind
pub document_at : (seed at to count : ℕ) → at ≤ to → to ≤ count
    → document seed count ≡ (codes "<items>" ++ items seed 0 at) ++ (items seed at (to - at) ++ (items seed to (count - to) ++ codes "</items>"))
document_at seed at to count low high =
    let parts : items seed 0 count ≡ items seed 0 at ++ (items seed at (to - at) ++ items seed to (count - to)) =
    sym (items_first seed at count (omega arith)) ∙ ap (λ (l : List ℕ). items seed 0 at ++ l) (sym (items_to seed at to count low high)) in
    ap (λ (l : List ℕ). codes "<items>" ++ (l ++ codes "</items>")) parts
    ∙ ap (λ (l : List ℕ). codes "<items>" ++ l) (append_assoc (items seed 0 at) (items seed at (to - at) ++ items seed to (count - to)) (codes "</items>")
    ∙ ap (λ (l : List ℕ). items seed 0 at ++ l) (append_assoc (items seed at (to - at)) (items seed to (count - to)) (codes "</items>")))
    ∙ sym (append_assoc (codes "<items>") (items seed 0 at) (items seed at (to - at) ++ (items seed to (count - to) ++ codes "</items>")))

-- a piece more
pub written_on : (before now after : SinkView) (seed at to : ℕ) → at ≤ to → Written before now seed at → Takes now after (items seed at (to - at))
    → Written before after seed to
written_on before now after seed at to low w g =
    subst (λ (l : List ℕ). Takes before after l)
    (append_assoc (codes "<items>") (items seed 0 at) (items seed at (to - at)) ∙ ap (λ (l : List ℕ). codes "<items>" ++ l) (items_first seed at to low))
    (takes_then before now after (codes "<items>" ++ items seed 0 at) (items seed at (to - at)) w g)

-- a part of a piece more
pub written_part : (before now after : SinkView) (seed at to count : ℕ) → at ≤ to → to ≤ count → Written before now seed at
    → Owes now after [] (items seed at (to - at)) → Owes before after [] (document seed count)
written_part before now after seed at to count low high w o =
    let rest : List ℕ = items seed to (count - to) ++ codes "</items>" in
    subst (λ (l : List ℕ). Owes before after [] l) (sym (document_at seed at to count low high))
    (owes_less before after (codes "<items>" ++ items seed 0 at) ((codes "<items>" ++ items seed 0 at) ++ (items seed at (to - at) ++ rest))
    (owes_then before now after (codes "<items>" ++ items seed 0 at) (items seed at (to - at) ++ rest) w (owes_more now after [] (items seed at (to - at)) rest o)))

-- nothing more
pub written_front : (before now after : SinkView) (seed at to count : ℕ) → at ≤ to → to ≤ count → Written before now seed at → after ≡ now
    → TakesFront before after [] (document seed count)
written_front before now after seed at to count low high w same = record {
  more = codes "<items>" ++ items seed 0 at;
  rest = items seed at (to - at) ++ (items seed to (count - to) ++ codes "</items>");
  took = subst (λ (v : SinkView). Takes before v (codes "<items>" ++ items seed 0 at)) (sym same) w;
  split = document_at seed at to count low high;
}

-- the document is what was written before its end, and the end
pub document_end : (seed count : ℕ) → document seed count ≡ (codes "<items>" ++ items seed 0 count) ++ codes "</items>"
document_end seed count = sym (append_assoc (codes "<items>") (items seed 0 count) (codes "</items>"))

-- the end, or a part of it
pub written_all : (before now after : SinkView) (seed at count : ℕ) → at ≡ count → Written before now seed at → Takes now after (codes "</items>")
    → Takes before after (document seed count)
written_all before now after seed at count end w t =
    let all : Written before now seed count = subst (λ (k : ℕ). Written before now seed k) end w in
    subst (λ (l : List ℕ). Takes before after l) (sym (document_end seed count))
    (takes_then before now after (codes "<items>" ++ items seed 0 count) (codes "</items>") all t)

pub written_end : (before now after : SinkView) (seed at count : ℕ) → at ≡ count → Written before now seed at → Owes now after [] (codes "</items>")
    → Owes before after [] (document seed count)
written_end before now after seed at count end w o =
    let all : Written before now seed count = subst (λ (k : ℕ). Written before now seed k) end w in
    subst (λ (l : List ℕ). Owes before after [] l) (sym (document_end seed count))
    (owes_less before after (codes "<items>" ++ items seed 0 count) ((codes "<items>" ++ items seed 0 count) ++ codes "</items>")
    (owes_then before now after (codes "<items>" ++ items seed 0 count) (codes "</items>") all o))

-- the first words, or a part of them
pub written_first : (before after : SinkView) (seed count : ℕ) → Owes before after [] (codes "<items>") → Owes before after [] (document seed count)
written_first before after seed count o = owes_more before after [] (codes "<items>") (items seed 0 count ++ codes "</items>") o
