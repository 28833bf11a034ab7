-- The serial of a row's parent, told by the link to it.
use Rattle.std.proofs.Common.{◌≡◌, ℕ, sym, ◌∙◌, ap, Some, None}
use Rattle.std.specs.Prelude.{option_map}
use Rattle.std.specs.FinMap.{get}
use Rattle.node_store.specs.Rows.{StoreRow, parent_of}
use Rattle.buf_tree.specs.Row.{Row}
use Rattle.buf_tree.specs.Recount.{TellsParent}
use Rattle.buf_tree.specs.Shape.{Store, cells, Shaped, AtPlace}
use Rattle.buf_tree.proofs.Kin.{parent_row, no_parent}
use Rattle.buf_tree.proofs.Seeking.{cell_row}

module _ (m : Store) (s : Shaped m) (p k : ℕ) (same : Some p ≡ Some k) where
  here : p ≡ k
  here = cc

  pub link_tells : (q : ℕ) → Some q ≡ parent_of m p → (r : Row) → option_map (λ (e : StoreRow Row). e.payload) (get m q) ≡ Some r → AtPlace (cells m) k (TellsParent r.serial)
  link_tells q e r paid c i at inner =
      let u = parent_row m (cells m) s c i q (ap (parent_of m) (at ∙ sym here) ∙ sym e) in
      ap (λ (x : Row). x.serial) (sym (cell_row m s u.0 u.1 q u.3 r paid)) ∙ sym u.2.0

  pub no_link_tells : None ≡ parent_of m p → AtPlace (cells m) k (TellsParent 0)
  no_link_tells e c i at inner = absurd (inner (no_parent m (cells m) s c i (ap (parent_of m) (at ∙ sym here) ∙ sym e)))
