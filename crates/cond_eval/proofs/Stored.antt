-- Rows that differ in their roles alone, as those of a store and those that contracts see do, are rows of the same nodes.
use Rattle.std.proofs.Common.{◌≡◌, ℕ, Bool, List, [], ◌∷◌, map, refl, sym, ◌∙◌, ap, Some}
use Rattle.std.specs.Prelude.{option_map}
use Rattle.std.specs.FinMap.{get}
use Rattle.gcx_base.specs.declared.kind.Kind.{Kind}
use Rattle.gcx_model.specs.Members.{In}
use Rattle.gcx_model.specs.Tree.{Node, Tree}
use Rattle.node_store.specs.Rows.{StoreRow}
use Rattle.buf_tree.specs.Row.{Row}
use Rattle.buf_tree.specs.Shape.{Store, Cell, num, Shape}
use Rattle.buf_tree.specs.Spread.{SameButRoles, bare_cell}
use Rattle.buf_tree.proofs.KeptReading.{kept_of, kind_told}
use Rattle.cond_eval.specs.Asking.{facts, RowsOf}
use Rattle.cond_eval.specs.Reads.{NodeAt, TellsInside}
use Rattle.cond_eval.specs.declared.sets.Member.{Member}

bare_facts : (xs : List Cell) → map facts xs ≡ map facts (map bare_cell xs)
bare_facts [] = refl
bare_facts (x ∷ xs) = ap (λ (l : List _). facts x ∷ l) (bare_facts xs)

module _ (ks rs : List Cell) (same : SameButRoles ks rs) where
  rows_stored : (P : Tree) (keep : Node → Bool) → RowsOf rs P keep → RowsOf ks P keep
  rows_stored P keep of = record { grown = of.grown; rows_are = bare_facts ks ∙ (ap (map facts) same ∙ (sym (bare_facts rs) ∙ of.rows_are)); up = of.up }

  pub node_stored : (P : Tree) (keep : Node → Bool) (p : ℕ) (n : Node) → NodeAt rs P keep p n → NodeAt ks P keep p n
  node_stored P keep p n a =
      let k = kept_of ks rs same a.cell a.cell_among in
      record {
        rows_of = rows_stored P keep a.rows_of;
        among = a.among;
        kept = a.kept;
        cell = k.0;
        cell_among = k.1;
        at = ap (λ (z : Cell). z.place) k.2 ∙ a.at;
        number = ap num k.2 ∙ a.number;
      }

  pub tells_stored : (m last top : Member) (b : Bool) → TellsInside ks m last top b → TellsInside rs m last top b
  tells_stored m last top b h = λ P keep l n t a. h P keep l n t (node_stored P keep m.place n a)

  pub kind_here : (m : Store) → Shape m ks → (p : ℕ) (r : Row) (k : Kind) → option_map (λ (e : StoreRow Row). e.payload) (get m p) ≡ Some r → r.kind ≡ k → (c : Cell) → In c rs → c.place ≡ p → c.row.kind ≡ k
  kind_here m s p r k h f c i e = kind_told m ks rs s same p r h c i e ∙ f
