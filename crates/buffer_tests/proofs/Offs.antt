-- The statements of a body, found among its items, and where one is due whose role is its base's own.
use Rattle.std.proofs.Common.{◌≡◌, ℕ, zero, suc, ◌<◌, ◌||◌, true, not, List, [], ◌∷◌, length, map, sym, ◌∙◌, ap, subst, inl, inr, rules, arith}
use Rattle.std.specs.Prelude.{slice_index_or}
use Rattle.std.specs.FinSet as set
use Rattle.std.proofs.lemmas.Bool.{and_parts, or_cases, not-true, true≢false}
use Rattle.gcx_model.specs.declared.item.Item.{Item, the_lemmas as item_lemmas}
use Rattle.gcx_model.specs.declared.item.Item.TheVariants as item
use Rattle.gcx_model.specs.declared.item.Off.{Off}
use Rattle.gcx_model.specs.ItemView.{item_tree, body_of, off_tree}
use Rattle.gcx_model.specs.Core as tree
use Rattle.gcx_model.specs.Core.{OffTree}
use Rattle.gcx_model.specs.Members.{In}
use Rattle.gcx_model.specs.Placed.{item_offs, offs_in}
use Rattle.tree_laws.proofs.Lists.{In-left, In-right}
use Rattle.buf_tree.specs.Calls.{HasRole}
use Rattle.buf_tree.specs.Shape.{Cell}
use Rattle.buf_tree.specs.View.{InUse}
use Rattle.buf_tree.specs.Ways.{is_waiting}

-- a statement of an item is one of the body
pub among : (xs : List Item) (k : ℕ) (x : Item) (o : OffTree) → k < length xs → x ≡ slice_index_or xs k x → In o (item_offs (item_tree x)) → In o (offs_in (body_of (map item_tree xs)))
among [] k x o h e i = absurd (omega arith)
among (y ∷ ys) zero x o h e i = In-left o (item_offs (item_tree y)) (offs_in (body_of (map item_tree ys))) (subst (λ (z : Item). In o (item_offs (item_tree z))) e i)
among (y ∷ ys) (suc k) x o h e i = In-right o (item_offs (item_tree y)) (offs_in (body_of (map item_tree ys))) (among ys k x o (omega arith) e i)

pub fold_Off : (off : Off) → item_tree (item.Off off) ≡ tree.SignOff (off_tree off)
fold_Off off = search (rules, item_lemmas)

-- such a statement is due where the base has the role
pub has_own : (rows : List Cell) (p : ℕ) (off : Off) → off.own.0 ≡ off.role.0 → (u : InUse rows p) → is_waiting u.cell.row off ≡ true → HasRole rows p off.own.0
has_own rows p off same u h =
    let a = and_parts (set.contains u.cell.row.roles off.own.0 || set.contains u.cell.row.signed off.own.0) (not (set.contains u.cell.row.signed off.role.0)) h in
    record {
      cell = u.cell;
      among = u.among;
      place = u.place;
      has = elim (or_cases (set.contains u.cell.row.roles off.own.0) (set.contains u.cell.row.signed off.own.0) a.0) [
        | inl e ↦ e
        | inr e ↦ absurd (true≢false (sym e ∙ (ap (λ (k : ℕ). set.contains u.cell.row.signed k) same ∙ not-true (set.contains u.cell.row.signed off.role.0) a.1)))
      ];
    }
