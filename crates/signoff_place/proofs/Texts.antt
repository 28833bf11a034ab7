-- The lines of a plan, one behind the other.
use Rattle.std.proofs.Common.{ℕ, zero, suc, ◌≡◌, ◌+◌, ◌<◌, Bool, List, [], ◌∷◌, ◌++◌, map, length, take, get_or, refl, sym, ap, ◌∙◌, arith, append_assoc, append-nil}
use Rattle.std.proofs.lemmas.List.{map_more, length-map, length-take}
use Rattle.std.specs.Prelude.{codes}
use Rattle.gcx_base.specs.declared.ids.VarId.{VarId}
use Rattle.gcx_model.specs.declared.item.Item.{Item}
use Rattle.gcx_model.specs.declared.plan.RoleRow.{RoleRow}
use Rattle.gcx_model.specs.declared.plan.VarRow.{VarRow}
use Rattle.gcx_model.specs.Core.{ItemTree, RoleRowTree}
use Rattle.gcx_model.specs.ItemView.{body_of, item_tree}
use Rattle.gcx_model.specs.PlanView.{role_row_tree, var_row_tree}
use Rattle.signoff_place.specs.Explained.{line, words, spaces, var_line, var_lines, role_line, role_lines, item_text, body_text}

pub spaces_more : (old now new : List ℕ) (n m : ℕ) → now ≡ old ++ spaces n → new ≡ now ++ 32 ∷ [] → m ≡ suc n → new ≡ old ++ spaces m
spaces_more old now new n m e h s =
    h ∙ (ap (λ (x : List ℕ). x ++ 32 ∷ []) e ∙ (append_assoc old (spaces n) (32 ∷ []) ∙ ap (λ (x : List ℕ). old ++ x) (last n ∙ ap spaces (sym s))))
  where
    last : (k : ℕ) → spaces k ++ 32 ∷ [] ≡ spaces (suc k)
    last zero = refl
    last (suc k) = ap (λ (x : List ℕ). 32 ∷ x) (last k)

-- ---- Variables

-- the lines of the first i
abbrev pub vars_to : (x : ℕ) → List VarRow → List Bool → List VarId → ℕ → List ℕ
vars_to x rows flags fsa i = var_lines x (map var_row_tree (take i rows)) (take i flags) (map (λ (y : VarId). y.0) (take i fsa))

vars_step : (x : ℕ) (rows : List VarRow) (flags : List Bool) (fsa : List VarId) (i : ℕ) (r : VarRow) (c : Bool) (b : VarId) → i < length rows → i < length flags → i < length fsa →
    vars_to x rows flags fsa (suc i) ≡ vars_to x rows flags fsa i ++ var_line (x + i) (var_row_tree (get_or rows i r)) (get_or flags i c) (get_or fsa i b).0
vars_step x [] flags fsa i r c b h g k = absurd (omega arith)
vars_step x (q ∷ rows) [] fsa i r c b h g k = absurd (omega arith)
vars_step x (q ∷ rows) (d ∷ flags) [] i r c b h g k = absurd (omega arith)
vars_step x (q ∷ rows) (d ∷ flags) (a ∷ fsa) zero r c b h g k = append-nil (var_line x (var_row_tree q) d a.0) ∙ ap (λ (n : ℕ). var_line n (var_row_tree q) d a.0) (omega arith)
vars_step x (q ∷ rows) (d ∷ flags) (a ∷ fsa) (suc i) r c b h g k =
    ap (λ (t : List ℕ). var_line x (var_row_tree q) d a.0 ++ t)
    (vars_step (suc x) rows flags fsa i r c b (omega arith) (omega arith) (omega arith)
    ∙ ap (λ (n : ℕ). vars_to (suc x) rows flags fsa i ++ var_line n (var_row_tree (get_or rows i r)) (get_or flags i c) (get_or fsa i b).0) (omega arith))
    ∙ sym (append_assoc (var_line x (var_row_tree q) d a.0) (vars_to (suc x) rows flags fsa i) (var_line (x + suc i) (var_row_tree (get_or rows i r)) (get_or flags i c) (get_or fsa i b).0))

pub vars_more : (x number : ℕ) (old now new : List ℕ) (rows : List VarRow) (flags : List Bool) (fsa : List VarId) (i : ℕ) (r : VarRow) (c d : Bool) (b z : VarId) → i < length rows → length flags ≡ length rows → length fsa ≡ length rows →
    r ≡ get_or rows i r → c ≡ get_or flags i d → b ≡ get_or fsa i z → number ≡ x + i → now ≡ old ++ vars_to x rows flags fsa i → new ≡ now ++ var_line number (var_row_tree r) c b.0 →
    new ≡ old ++ vars_to x rows flags fsa (i + 1)
vars_more x number old now new rows flags fsa i r c d b z h l m e f g n so_far put =
    put ∙ ((λ k. so_far k ++ var_line (n k) (var_row_tree (e k)) (f k) (g k).0)
    ∙ (append_assoc old (vars_to x rows flags fsa i) (var_line (x + i) (var_row_tree (get_or rows i r)) (get_or flags i d) (get_or fsa i z).0)
    ∙ ap (λ (t : List ℕ). old ++ t) (sym (vars_step x rows flags fsa i r d z h (omega arith) (omega arith)) ∙ ap (vars_to x rows flags fsa) next)))
  where
    next : suc i ≡ i + 1
    next = omega arith

-- ---- Roles

roles_end : (k : ℕ) (rs : List RoleRowTree) (r : RoleRowTree) → role_lines k (rs ++ r ∷ []) ≡ role_lines k rs ++ role_line (k + length rs) r
roles_end k [] r = append-nil (role_line k r) ∙ ap (λ (n : ℕ). role_line n r) (omega arith)
roles_end k (q ∷ rs) r =
    ap (λ (t : List ℕ). role_line k q ++ t) (roles_end (suc k) rs r ∙ ap (λ (n : ℕ). role_lines (suc k) rs ++ role_line n r) (omega arith))
    ∙ sym (append_assoc (role_line k q) (role_lines (suc k) rs) (role_line (k + length (q ∷ rs)) r))

pub roles_more : (old now new : List ℕ) (rows : List RoleRow) (i number : ℕ) (r : RoleRow) → i < length rows → r ≡ get_or rows i r → number ≡ i → now ≡ old ++ role_lines 0 (map role_row_tree (take i rows)) →
    new ≡ now ++ role_line number (role_row_tree r) → new ≡ old ++ role_lines 0 (map role_row_tree (take (i + 1) rows))
roles_more old now new rows i number r h e n so_far put =
    put ∙ ((λ k. so_far k ++ role_line (here k) (role_row_tree r))
    ∙ (append_assoc old (role_lines 0 (map role_row_tree (take i rows))) (role_line (0 + length (map role_row_tree (take i rows))) (role_row_tree r))
    ∙ ap (λ (t : List ℕ). old ++ t) (sym (roles_end 0 (map role_row_tree (take i rows)) (role_row_tree r))
    ∙ ap (role_lines 0) (sym (map_more role_row_tree rows i r h ∙ ap (λ (y : RoleRow). map role_row_tree (take i rows) ++ role_row_tree y ∷ []) (sym e))))))
  where
    here : number ≡ 0 + length (map role_row_tree (take i rows))
    here = n ∙ omega (arith, length-map (take i rows) role_row_tree, length-take i rows)

-- ---- Items

items_end : (depth : ℕ) (is : List ItemTree) (i : ItemTree) → body_text (body_of (is ++ i ∷ [])) depth ≡ body_text (body_of is) depth ++ item_text i depth
items_end depth [] i = append-nil (item_text i depth)
items_end depth (j ∷ is) i = ap (λ (t : List ℕ). item_text j depth ++ t) (items_end depth is i) ∙ sym (append_assoc (item_text j depth) (body_text (body_of is) depth) (item_text i depth))

pub items_more : (depth : ℕ) (old now new : List ℕ) (xs : List Item) (i : ℕ) (x : Item) → i < length xs → x ≡ get_or xs i x → now ≡ old ++ body_text (body_of (map item_tree (take i xs))) depth →
    new ≡ now ++ item_text (item_tree x) depth → new ≡ old ++ body_text (body_of (map item_tree (take (i + 1) xs))) depth
items_more depth old now new xs i x h e so_far put =
    put ∙ (ap (λ (t : List ℕ). t ++ item_text (item_tree x) depth) so_far
    ∙ (append_assoc old (body_text (body_of (map item_tree (take i xs))) depth) (item_text (item_tree x) depth)
    ∙ ap (λ (t : List ℕ). old ++ t) (sym (items_end depth (map item_tree (take i xs)) (item_tree x))
    ∙ ap (λ (is : List ItemTree). body_text (body_of is) depth) (sym (map_more item_tree xs i x h ∙ ap (λ (y : Item). map item_tree (take i xs) ++ item_tree y ∷ []) (sym e))))))

-- ---- Texts one behind the other

pub two : (old a new x y : List ℕ) → a ≡ old ++ x → new ≡ a ++ y → new ≡ old ++ (x ++ y)
two old a new x y p q = q ∙ (ap (λ (t : List ℕ). t ++ y) p ∙ append_assoc old x y)

pub four : (old a b c new x y z w : List ℕ) → a ≡ old ++ x → b ≡ a ++ y → c ≡ b ++ z → new ≡ c ++ w → new ≡ old ++ (x ++ (y ++ (z ++ w)))
four old a b c new x y z w p q r s = two old a new x (y ++ (z ++ w)) p (two a b new y (z ++ w) q (two b c new z w r s))

pub five : (old a b c d new x y z w v : List ℕ) → a ≡ old ++ x → b ≡ a ++ y → c ≡ b ++ z → d ≡ c ++ w → new ≡ d ++ v → new ≡ old ++ (x ++ (y ++ (z ++ (w ++ v))))
five old a b c d new x y z w v p q r s t = two old a new x (y ++ (z ++ (w ++ v))) p (four a b c d new y z w v q r s t)

-- the words of a variable's line
var_words : (x y s r : List ℕ) → codes "var " ++ (x ++ (codes " of " ++ (y ++ (codes " " ++ (s ++ (codes " " ++ (r ++ 10 ∷ []))))))) ≡ line (words (codes "var" ∷ x ∷ codes "of" ∷ y ∷ s ∷ r ∷ []))
var_words x y s r =
    ap (λ (t : List ℕ). codes "var " ++ t)
    (ap (λ (t : List ℕ). x ++ (codes " of " ++ t))
    (ap (λ (t : List ℕ). y ++ (codes " " ++ t))
    (ap (λ (t : List ℕ). s ++ (codes " " ++ t)) (ap (λ (t : List ℕ). t ++ 10 ∷ []) (sym (append-nil r)))
    ∙ sym (append_assoc s (codes " " ++ (r ++ [])) (10 ∷ [])))
    ∙ sym (append_assoc y (codes " " ++ (s ++ (codes " " ++ (r ++ [])))) (10 ∷ [])))
    ∙ sym (append_assoc x (codes " of " ++ (y ++ (codes " " ++ (s ++ (codes " " ++ (r ++ [])))))) (10 ∷ [])))

pub var_put : (old a b c d e f g h new x y s r : List ℕ) → a ≡ old ++ codes "var " → b ≡ a ++ x → c ≡ b ++ codes " of " → d ≡ c ++ y → e ≡ d ++ codes " " → f ≡ e ++ s → g ≡ f ++ codes " " → h ≡ g ++ r → new ≡ h ++ 10 ∷ [] →
    new ≡ old ++ line (words (codes "var" ∷ x ∷ codes "of" ∷ y ∷ s ∷ r ∷ []))
var_put old a b c d e f g h new x y s r p1 p2 p3 p4 p5 p6 p7 p8 p9 =
    four old a b c new (codes "var ") x (codes " of ") (y ++ (codes " " ++ (s ++ (codes " " ++ (r ++ 10 ∷ []))))) p1 p2 p3
    (two c d new y (codes " " ++ (s ++ (codes " " ++ (r ++ 10 ∷ [])))) p4 (five d e f g h new (codes " ") s (codes " ") r (10 ∷ []) p5 p6 p7 p8 p9))
    ∙ ap (λ (t : List ℕ). old ++ t) (var_words x y s r)

-- the words of a statement
off_words : (x y r t k : List ℕ) → codes "off " ++ (x ++ (codes " " ++ (y ++ (codes " " ++ (r ++ (codes " " ++ (t ++ (codes " " ++ k)))))))) ≡ words (codes "off" ∷ x ∷ y ∷ r ∷ t ∷ k ∷ [])
off_words x y r t k = ap (λ (z : List ℕ). codes "off " ++ (x ++ (codes " " ++ (y ++ (codes " " ++ (r ++ (codes " " ++ (t ++ (codes " " ++ z))))))))) (sym (append-nil k))

pub off_put : (old a b c d e f g h i new x y r t k : List ℕ) → a ≡ old ++ codes "off " → b ≡ a ++ x → c ≡ b ++ codes " " → d ≡ c ++ y → e ≡ d ++ codes " " → f ≡ e ++ r → g ≡ f ++ codes " " → h ≡ g ++ t → i ≡ h ++ codes " " → new ≡ i ++ k →
    new ≡ old ++ words (codes "off" ∷ x ∷ y ∷ r ∷ t ∷ k ∷ [])
off_put old a b c d e f g h i new x y r t k p1 p2 p3 p4 p5 p6 p7 p8 p9 p10 =
    five old a b c d new (codes "off ") x (codes " ") y (codes " " ++ (r ++ (codes " " ++ (t ++ (codes " " ++ k))))) p1 p2 p3 p4
    (two d e new (codes " ") (r ++ (codes " " ++ (t ++ (codes " " ++ k)))) p5 (five e f g h i new r (codes " ") t (codes " ") k p6 p7 p8 p9 p10))
    ∙ ap (λ (t : List ℕ). old ++ t) (off_words x y r t k)

-- the text of a plan
pub plan_put : (start a b c d new vars roles body : List ℕ) → start ≡ [] → a ≡ start ++ line (codes "var 0 root") → b ≡ a ++ vars → c ≡ b ++ roles → d ≡ c ++ line (codes "plan") → new ≡ d ++ body →
    new ≡ line (codes "var 0 root") ++ (vars ++ (roles ++ (line (codes "plan") ++ body)))
plan_put start a b c d new vars roles body n p q r s t =
    five start a b c d new (line (codes "var 0 root")) vars roles (line (codes "plan")) body p q r s t ∙ ap (λ (x : List ℕ). x ++ (line (codes "var 0 root") ++ (vars ++ (roles ++ (line (codes "plan") ++ body))))) n
