-- The string value of a node, from its rows.
use Rattle.std.proofs.Common.{◌≡◌, ℕ, zero, suc, ◌+◌, ◌-◌, ◌<◌, ◌≤◌, Bool, true, false, cond, List, [], ◌∷◌, ◌++◌, length, get_or, take, drop, sym, ◌∙◌, ap, arith}
use Rattle.std.specs.List.{flat_map}
use Rattle.std.proofs.lemmas.List.{drop_more, drop_all}
use Rattle.gcx_model.specs.Tree.{Node, Root, kind_of, within}
use Rattle.gcx_model.specs.Paths.{text_of, value}
use Rattle.doc_tree.specs.declared.row.Row.{Row}
use Rattle.doc_tree.specs.Rows.{node_at, nodes_of, no_row, IsNested, IsBehind}
use Rattle.doc_tree.specs.Copies.{whole, row_text, row_texts}
use Rattle.doc_tree.proofs.Nodes.{are_nodes, length-nodes_of}
use Rattle.doc_tree.proofs.Steps.{within_low}
use Rattle.doc_tree.proofs.Order.{number, rises, row_node, within_self, inside, outside}

module _ (rows : List Row) (nested : IsNested rows) (n e : ℕ) (there : n ≤ length rows) (b : IsBehind rows n e) where
  abbrev text_in : Node → List ℕ
  text_in m = cond (within n m) (text_of (kind_of m)) []

  abbrev from : ℕ → List ℕ
  from i = flat_map text_in (drop i (nodes_of rows))

  here : (i : ℕ) (c : Bool) → i ≤ length rows → within n (node_at (nodes_of rows) i) ≡ c → from i ≡ cond c (text_of (kind_of (node_at (nodes_of rows) i))) [] ++ from (suc i)
  here i c h w =
      let at : i + 1 ≡ suc i = omega arith in
      ap (flat_map text_in) (drop_more (nodes_of rows) i Root (omega (arith, length-nodes_of rows)))
      ∙ (ap (λ k. text_in (node_at (nodes_of rows) i) ++ from k) at ∙ ap (λ x. cond x (text_of (kind_of (node_at (nodes_of rows) i))) [] ++ from (suc i)) w)

  -- what stands before the node isn't in it
  before : (d i : ℕ) → i + d ≤ n → from i ≡ from (i + d)
  before zero i h = let z : i ≡ i + 0 = omega arith in ap from z
  before (suc d) i h =
      let z : suc i + d ≡ i + suc d = omega arith in
      here i false (omega arith) (within_low n (node_at (nodes_of rows) i) (rises rows nested i (omega arith)) (let f = number rows nested i (omega arith) in omega arith))
      ∙ (before d (suc i) (omega arith) ∙ ap from z)

  -- nor is what stands behind
  behind : (d i : ℕ) → i + d ≡ length rows → e ≤ i → from (suc i) ≡ []
  behind zero i h le = ap (flat_map text_in) (drop_all (suc i) (nodes_of rows) (omega (arith, length-nodes_of rows)))
  behind (suc d) i h le =
      let f = b.from in
      here (suc i) false (omega arith) (outside rows nested n e i b.from le (omega arith) (b.outside (omega arith)))
      ∙ behind d (suc i) (omega arith) (omega arith)

  -- the rows between are
  between : (d k : ℕ) → k + d ≡ e → n ≤ k → from (suc k) ≡ row_texts (take d (drop k rows))
  between zero k h le = let t = b.to in behind (length rows - k) k (omega arith) (omega arith)
  between (suc d) k h le =
      let t = b.to in
      let lt : k < length rows = omega arith in
      let at : k + 1 ≡ suc k = omega arith in
      here (suc k) true (omega arith) (inside rows nested n k le lt (λ j f g. b.inside j f (omega arith)))
      ∙ (ap (λ m. text_of (kind_of m) ++ from (suc (suc k))) (row_node rows nested k lt)
      ∙ (ap (λ l. row_text (get_or rows k no_row) ++ l) (between d (suc k) (omega arith) (omega arith))
      ∙ sym (ap (λ l. row_texts (take (suc d) l)) (drop_more rows k no_row lt ∙ ap (λ i. get_or rows k no_row ∷ drop i rows) at))))

  own : from n ≡ text_of (kind_of (node_at (nodes_of rows) n)) ++ from (suc n)
  own = here n true there (within_self n (node_at (nodes_of rows) n) (number rows nested n there))

  value_from : value (whole rows) (node_at (nodes_of rows) n) ≡ from n
  value_from = let z : 0 + n ≡ n = omega arith in ap (λ i. flat_map (λ m. cond (within i m) (text_of (kind_of m)) []) (nodes_of rows)) (number rows nested n there) ∙ (before n 0 (omega arith) ∙ ap from z)

-- the value of a node: the texts of its own row and of those below it
pub value_rows : (rows : List Row) (n e s : ℕ) → IsNested rows → n ≤ length rows → IsBehind rows n e → s ≡ n - 1 → value (whole rows) (node_at (nodes_of rows) n) ≡ row_texts (take (e - s) (drop s rows))
value_rows rows zero e s nested there b q =
    let z : s ≡ 0 = omega arith in
    let y : e ≡ e - 0 = omega arith in
    value_from rows nested 0 e there b ∙ (own rows nested 0 e there b
    ∙ (ap (λ (m : Node). text_of (kind_of m) ++ from rows nested 0 e there b 1) (are_nodes rows).first
    ∙ (between rows nested 0 e there b e 0 (omega arith) (omega arith) ∙ (ap (λ d. row_texts (take d (drop 0 rows))) y ∙ sym (ap (λ i. row_texts (take (e - i) (drop i rows))) z)))))
value_rows rows (suc k) e s nested there b q =
    let z : s ≡ k = omega arith in
    let f = b.from in
    let c : e - k ≡ suc (e - suc k) = omega arith in
    let at : k + 1 ≡ suc k = omega arith in
    let lt : k < length rows = omega arith in
    value_from rows nested (suc k) e there b ∙ (own rows nested (suc k) e there b
    ∙ (ap (λ (m : Node). text_of (kind_of m) ++ from rows nested (suc k) e there b (suc (suc k))) (row_node rows nested k lt)
    ∙ (ap (λ l. row_text (get_or rows k no_row) ++ l) (between rows nested (suc k) e there b (e - suc k) (suc k) (omega arith) (omega arith))
    ∙ sym (ap (λ i. row_texts (take (e - i) (drop i rows))) z ∙ (ap (λ d. row_texts (take d (drop k rows))) c ∙ ap (λ l. row_texts (take (suc (e - suc k)) l)) (drop_more rows k no_row lt ∙ ap (λ i. get_or rows k no_row ∷ drop i rows) at))))))
