use Rattle.std.proofs.Common.{sym, ◌∙◌, ap}
use Rattle.std.proofs.lemmas.Bool.{eqb-true, eq-eqb, false≢true}
use Rattle.buf_tree.specs.Shape.{Cell}
use Rattle.buf_tree.proofs.Seeking.{root_before, top_before, row_before, same_place}
use Rattle.buf_tree.proofs.search.before_below.Goals as goal

pub returns-in-None : goal.returns-in-None
returns-in-None g c d h i j e f k = root_before _ c.requires.shape d h i j k (c.in-None.ensures h j f)

pub returns-then-is_same : goal.returns-then-is_same
returns-then-is_same g c d h i j e f k =
    let t = c.in-Some.ensures h j f in
    top_before _ c.requires.shape d h t.0 i t.3 (same_place _ c.requires.shape d t.0 _ i t.1 e (t.2 ∙ eqb-true _ _ (sym c.is_same.ensures ∙ c.if-is_same.true)))

pub returns-else-is_same : goal.returns-else-is_same
returns-else-is_same g c d h i j e f k =
    let t = c.in-Some.ensures h j f in
    row_before _ c.requires.shape d h t.0 _ i t.1 t.2 k t.3 (λ z. false≢true (sym (sym c.is_same.ensures ∙ c.if-is_same.false) ∙ eq-eqb _ _ (sym t.2 ∙ ap (λ (x : Cell). x.place) (sym z) ∙ e)))
