-- What a trace tells of tokens and of actions.
use Rattle.std.proofs.Common.{◌≡◌, ⊎_elim, ℕ, List, [], ◌∷◌, ◌++◌, length, map, refl, sym, ◌∙◌, ap, subst, inl, inr, append_assoc, Some, Option, Result, Ok, Err, OnOk}
use Rattle.std.proofs.lemmas.List.{append-nil}
use Rattle.std.proofs.lemmas.Grind.{flat_map-append}
use Rattle.gcx_model.specs.Tree.{Node, Under, serial_of, Tree, TreeToken as Said, Start, Chars, End, grow}
use Rattle.gcx_base.specs.declared.kind.Kind.TheVariants.{Element, Text}
use Rattle.gcx_model.specs.Members.{In}
use Rattle.gcx_model.specs.Core.{PlanTree}
use Rattle.gcx_model.specs.Held.{roles_given}
use Rattle.gcx_model.specs.Past.{Past, past_fed, Opens}
use Rattle.gcx_model.specs.Demand.{Line, LineKind, ElementNode, TextNode, line_text, left, action_line, act_lines, feed_line, text_of_lines}
use Rattle.gcx_model.specs.Demand as tree
use Rattle.past_laws.proofs.Ahead.{new_node}
use Rattle.tree_laws.proofs.Lists.{In-append}
use Rattle.past_laws.proofs.RowFacts.{open_behind}
use Rattle.buf_tree.specs.View.{View}
use Rattle.buf_tree.specs.Calls.{numbers}
use Rattle.buf_tree.specs.Stands.{StandsFor}
use Rattle.projector.specs.Projector.{Changes, DoesBy}
use Rattle.projector.specs.declared.projector.Fed.{Fed}
use Rattle.projector.specs.declared.projector.Fed.TheVariants as outcomes
use Rattle.run_part.specs.Telling.{GrewPart, fed_line, fed_lines, kind_said}
use Rattle.run_part.proofs.Departing.{gone_fed}

-- ---- texts

pub text_append : (xs ys : List Line) → text_of_lines (xs ++ ys) ≡ text_of_lines xs ++ text_of_lines ys
text_append xs ys = flat_map-append (λ (l : Line). line_text l ++ 10 ∷ []) xs ys

-- one line, as it is put
pub line_put : {T E : Type 0} (r : Result T E) (u v : List ℕ) (l : Line) → OnOk r (v ≡ u ++ (line_text l ++ 10 ∷ [])) → OnOk r (v ≡ u ++ text_of_lines (l ∷ []))
line_put (Ok x) u v l e = e ∙ ap (λ (z : List ℕ). u ++ z) (sym (append-nil (line_text l ++ 10 ∷ [])))
line_put (Err x) u v l e = tt

pub part_all : (u v t : List ℕ) → v ≡ u ++ t → GrewPart u v t
part_all u v t e = (t, [], sym (append-nil t), e)

pub part_none : (u v t : List ℕ) → v ≡ u → GrewPart u v t
part_none u v t e = ([], t, refl, e ∙ sym (append-nil u))

-- a front of a text's front is one of the text
pub part_first : (u v s t : List ℕ) → GrewPart u v s → GrewPart u v (s ++ t)
part_first u v s t h = (h.0, h.1 ++ t, ap (λ (z : List ℕ). z ++ t) h.2 ∙ append_assoc h.0 h.1 t, h.3)

pub part_behind : (u v w s t : List ℕ) → v ≡ u ++ s → GrewPart v w t → GrewPart u w (s ++ t)
part_behind u v w s t e h = (s ++ h.0, h.1, ap (λ (z : List ℕ). s ++ z) h.2 ∙ sym (append_assoc s h.0 h.1), h.3 ∙ (ap (λ (z : List ℕ). z ++ h.0) e ∙ append_assoc u s h.0))

pub grew_on : (u v w s t : List ℕ) → v ≡ u ++ s → w ≡ v ++ t → w ≡ u ++ (s ++ t)
grew_on u v w s t e f = f ∙ (ap (λ (z : List ℕ). z ++ t) e ∙ append_assoc u s t)

pub lines_on : (u v w : List ℕ) (xs ys : List Line) → v ≡ u ++ text_of_lines xs → w ≡ v ++ text_of_lines ys → w ≡ u ++ text_of_lines (xs ++ ys)
lines_on u v w xs ys e f = grew_on u v w (text_of_lines xs) (text_of_lines ys) e f ∙ ap (λ (z : List ℕ). u ++ z) (sym (text_append xs ys))

pub lines_first : (u v : List ℕ) (xs ys : List Line) → GrewPart u v (text_of_lines xs) → GrewPart u v (text_of_lines (xs ++ ys))
lines_first u v xs ys h = subst (λ (z : List ℕ). GrewPart u v z) (sym (text_append xs ys)) (part_first u v (text_of_lines xs) (text_of_lines ys) h)

pub lines_behind : (u v w : List ℕ) (xs ys : List Line) → v ≡ u ++ text_of_lines xs → GrewPart v w (text_of_lines ys) → GrewPart u w (text_of_lines (xs ++ ys))
lines_behind u v w xs ys e h = subst (λ (z : List ℕ). GrewPart u w z) (sym (text_append xs ys)) (part_behind u v w (text_of_lines xs) (text_of_lines ys) e h)

-- ---- a token's lines

new_is : (P : Tree) (t : Said) (x n : Node) → (grow t P).nodes ≡ P.nodes ++ x ∷ [] → Opens P t n → x ≡ n
new_is P t x n e o = ⊎_elim (λ i. absurd (o.1 i)) one (In-append n P.nodes (x ∷ []) (subst (λ (z : List Node). In n z) e o.0))
  where
    one : In n (x ∷ []) → x ≡ n
    one (inl e) = e
    one (inr i) = absurd i

opened_form : (plan : PlanTree) (P : Tree) (t : Said) (n p : Node) → P.at ≡ Some p → Opens P t n → feed_line plan t (Some p) P (grow t P) ≡ tree.Opened (serial_of n) (kind_said t) (roles_given plan (grow t P) n) ∷ []
opened_form plan P (Start name) n p at o =
    ap (λ (m : Node). tree.Opened (serial_of m) (ElementNode name) (roles_given plan (grow (Start name) P) m) ∷ []) (new_is P (Start name) (Under p (length P.nodes) (Element name)) n ((open_behind P p at).0 name).0 o)
opened_form plan P (Chars b) n p at o =
    ap (λ (m : Node). tree.Opened (serial_of m) TextNode (roles_given plan (grow (Chars b) P) m) ∷ []) (new_is P (Chars b) (Under p (length P.nodes) (Text b)) n ((open_behind P p at).1 b).0 o)
opened_form plan P End n p at o = absurd (o.1 (subst (λ (z : List Node). In n z) (open_behind P p at).2 o.0))

fed_form : (past : Past) (t : Said) (f : Fed) (kind : LineKind) → DoesBy f t past → kind ≡ kind_said t → fed_line f kind ∷ [] ≡ feed_line past.plan t past.tree.at past.tree (grow t past.tree)
fed_form past t (outcomes.Opened s given) kind d k =
    let Q = grow t past.tree in
    let n = d.0 in
    let q = new_node past.tree t n d.1 in
    let a : tree.Opened s.0 kind (numbers given) ∷ [] ≡ tree.Opened (serial_of n) (kind_said t) (roles_given past.plan Q n) ∷ []
    = ap (λ z. tree.Opened z kind (numbers given) ∷ []) (sym d.2) ∙ (ap (λ (z : LineKind). tree.Opened (serial_of n) z (numbers given) ∷ []) k ∙ ap (λ (z : List ℕ). tree.Opened (serial_of n) (kind_said t) z ∷ []) d.3) in
    a ∙ sym (ap (λ (z : Option Node). feed_line past.plan t z past.tree Q) q.3.1 ∙ opened_form past.plan past.tree t n q.3.0 q.3.1 d.1)
fed_form past t (outcomes.Closed s) kind d k =
    ap (λ z. tree.Closed z ∷ []) (sym d.3)
    ∙ sym (ap (λ (z : Said). feed_line past.plan z past.tree.at past.tree (grow t past.tree)) d.1 ∙ ap (λ (z : Option Node). feed_line past.plan End z past.tree (grow t past.tree)) d.2)

-- what is told of a token: its line, and its departures
pub fed_told : (stood : Past → Type 0) (past : Past) (v w : View) (t : Said) (f : Fed) (kind : LineKind) → StandsFor v past → StandsFor w (past_fed t past) → v.gone ≡ [] → Changes stood v w t f → DoesBy f t past → kind ≡ kind_said t
    → fed_line f kind ∷ map tree.Left w.gone ≡ fed_lines past.plan t past.tree past.acts
fed_told stood past v w t f kind h g none c d k =
    ap (λ (z : List Line). z ++ map tree.Left w.gone) (fed_form past t f kind d k)
    ∙ ap (λ (z : List ℕ). feed_line past.plan t past.tree.at past.tree (grow t past.tree) ++ map tree.Left z) (gone_fed stood past v w t h g none f c d)
