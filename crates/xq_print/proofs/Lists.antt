-- The texts of lists of members, which hold one another.
use Rattle.std.proofs.Common.{ℕ, ◌≡◌, ◌≤◌, ◌==◌, Bool, true, false, not, cond, List, [], ◌∷◌, ◌++◌, map, length, refl, sym, ap, ◌∙◌, arith, append_assoc, append-nil}
use Rattle.std.specs.Prelude.{codes}
use Rattle.std.proofs.lemmas.Bool.{ne_eqb}
use Rattle.gcx_model.specs.Written.{start_tag, end_tag}
use Rattle.gcx_model.specs.declared.query.QCond.{QCond}
use Rattle.gcx_model.specs.declared.query.Expr.{Expr}
use Rattle.gcx_model.specs.Query.{QueryCondTree, ExprTree, conds_of, cond_tree, exprs_of, expr_tree}
use Rattle.xq_print.specs.declared.cond.Joint.{Joint}
use Rattle.xq_print.specs.Printed.{cond_text, expr_text, expr_texts, body_text, enclosed, is_enclosed, joined, joint_text, member_texts}
use Rattle.xq_print.proofs.Joining.{IsJoined, all_joined, after, is_later}

abbrev pub member_text : Joint → QCond → List ℕ
member_text joint c = enclosed (is_enclosed joint (cond_tree c)) (cond_text (cond_tree c))

pub members_are : (joint : Joint) (cs : List QCond) → member_texts joint (conds_of (map cond_tree cs)) ≡ map (member_text joint) cs
members_are joint [] = refl
members_are joint (c ∷ cs) = ap (λ ts. member_text joint c ∷ ts) (members_are joint cs)

abbrev pub part_text : Expr → List ℕ
part_text e = expr_text (expr_tree e)

pub parts_are : (es : List Expr) → expr_texts (exprs_of (map expr_tree es)) ≡ map part_text es
parts_are [] = refl
parts_are (e ∷ es) = ap (λ ts. part_text e ∷ ts) (parts_are es)

pub texts_are : (ts : List ExprTree) → expr_texts (exprs_of ts) ≡ map expr_text ts
texts_are [] = refl
texts_are (t ∷ ts) = ap (λ us. expr_text t ∷ us) (texts_are ts)

-- ---- Members of conditions

pub one_member : (out a b c now between text : List ℕ) (later around : Bool) → a ≡ out ++ cond later between [] → b ≡ a ++ cond around (codes "(") [] → c ≡ b ++ text → now ≡ c ++ cond around (codes ")") [] →
    now ≡ out ++ (cond later between [] ++ enclosed around text)
one_member out a b c now between text later true p q r s = after out a now (cond later between []) (enclosed true text) p (after a b now (codes "(") (text ++ codes ")") q (after b c now text (codes ")") r s))
one_member out a b c now between text later false p q r s = after out a now (cond later between []) text p (s ∙ (append-nil c ∙ (r ∙ ap (λ (x : List ℕ). x ++ text) (q ∙ append-nil a))))

pub members_done : (joint : Joint) (old out : List ℕ) (cs : List QCond) (ts : List QueryCondTree) (i : ℕ) (later : Bool) → IsJoined QCond (member_text joint) (joint_text joint) old cs i out later → length cs ≤ i →
    map cond_tree cs ≡ ts → out ≡ old ++ joined (joint_text joint) (member_texts joint (conds_of ts))
members_done joint old out cs ts i later j h e =
    all_joined (member_text joint) (joint_text joint) old cs i out later j h
    ∙ ap (λ us. old ++ joined (joint_text joint) us) (sym (members_are joint cs) ∙ ap (λ us. member_texts joint (conds_of us)) e)

-- ---- Parts of expressions

pub parts_done : (old out : List ℕ) (es : List Expr) (ts : List ExprTree) (i : ℕ) (later : Bool) → IsJoined Expr part_text (codes ", ") old es i out later → length es ≤ i →
    map expr_tree es ≡ ts → out ≡ old ++ joined (codes ", ") (expr_texts (exprs_of ts))
parts_done old out es ts i later j h e =
    all_joined part_text (codes ", ") old es i out later j h
    ∙ ap (λ us. old ++ joined (codes ", ") us) (sym (parts_are es) ∙ ap (λ us. expr_texts (exprs_of us)) e)

body_put : (ts : List (List ℕ)) (filled : Bool) → filled ≡ is_later ts → cond filled (codes "{") [] ++ (joined (codes ", ") ts ++ cond filled (codes "}") []) ≡ body_text ts
body_put [] filled e = ap (λ b. cond b (codes "{") [] ++ cond b (codes "}") []) e
body_put (t ∷ ts) filled e = ap (λ b. cond b (codes "{") [] ++ (joined (codes ", ") (t ∷ ts) ++ cond b (codes "}") [])) e

is_filled : (es : List Expr) (empty : Bool) → empty ≡ (length es == 0) → not empty ≡ is_later (expr_texts (exprs_of (map expr_tree es)))
is_filled [] empty e = ap not e
is_filled (x ∷ xs) empty e = ap not (e ∙ ne_eqb (length (x ∷ xs)) 0 (λ h. omega arith))

pub elem_put : (name : List ℕ) (es : List Expr) (empty : Bool) (old a b c d now : List ℕ) → empty ≡ (length es == 0) → a ≡ old ++ start_tag name → b ≡ a ++ cond (not empty) (codes "{") [] →
    c ≡ b ++ joined (codes ", ") (expr_texts (exprs_of (map expr_tree es))) → d ≡ c ++ cond (not empty) (codes "}") [] → now ≡ d ++ end_tag name →
    now ≡ old ++ (start_tag name ++ (body_text (expr_texts (exprs_of (map expr_tree es))) ++ end_tag name))
elem_put name es empty old a b c d now filled p q r s t =
    let body : d ≡ a ++ body_text (expr_texts (exprs_of (map expr_tree es))) =
    after a b d (cond (not empty) (codes "{") []) (joined (codes ", ") (expr_texts (exprs_of (map expr_tree es))) ++ cond (not empty) (codes "}") []) q
    (after b c d (joined (codes ", ") (expr_texts (exprs_of (map expr_tree es)))) (cond (not empty) (codes "}") []) r s)
    ∙ ap (λ (x : List ℕ). a ++ x) (body_put (expr_texts (exprs_of (map expr_tree es))) (not empty) (is_filled es empty filled)) in
    after old a now (start_tag name) (body_text (expr_texts (exprs_of (map expr_tree es))) ++ end_tag name) p
    (after a d now (body_text (expr_texts (exprs_of (map expr_tree es)))) (end_tag name) body t)

pub loop_put : (old a now clauses filter body : List ℕ) → a ≡ old ++ (codes "for " ++ (clauses ++ (filter ++ codes " return "))) → now ≡ a ++ body →
    now ≡ old ++ (codes "for " ++ (clauses ++ (filter ++ (codes " return " ++ body))))
loop_put old a now clauses filter body p q =
    after old a now (codes "for " ++ (clauses ++ (filter ++ codes " return "))) body p q ∙ ap (λ (x : List ℕ). old ++ x) (regrouped (codes "for ") clauses filter (codes " return ") body)
  where
    regrouped : (f c g r b : List ℕ) → (f ++ (c ++ (g ++ r))) ++ b ≡ f ++ (c ++ (g ++ (r ++ b)))
    regrouped f c g r b = simp append_assoc

pub branch_put : (old a b d now test this other : List ℕ) → a ≡ old ++ (codes "if (" ++ (test ++ codes ") then ")) → b ≡ a ++ this → d ≡ b ++ codes " else " → now ≡ d ++ other →
    now ≡ old ++ (codes "if (" ++ (test ++ (codes ") then " ++ (this ++ (codes " else " ++ other)))))
branch_put old a b d now test this other p q r s =
    after old a now (codes "if (" ++ (test ++ codes ") then ")) (this ++ (codes " else " ++ other)) p (after a b now this (codes " else " ++ other) q (after b d now (codes " else ") other r s))
    ∙ ap (λ (x : List ℕ). old ++ x) (regrouped (codes "if (") test (codes ") then ") (this ++ (codes " else " ++ other)))
  where
    regrouped : (i c t b : List ℕ) → (i ++ (c ++ t)) ++ b ≡ i ++ (c ++ (t ++ b))
    regrouped i c t b = simp append_assoc
