-- The frames of the nodes that were open, behind a token.
use Rattle.std.proofs.Common.{◌≡◌, ℕ, List, refl, sym, ◌∙◌, subst, Some, None}
use Rattle.gcx_base.specs.declared.steps.Step.{Step}
use Rattle.gcx_model.specs.Tree.{Node, serial_of, Tree, TreeToken, grow}
use Rattle.gcx_model.specs.Paths.{first}
use Rattle.gcx_model.specs.Nodes.{Grown}
use Rattle.gcx_model.specs.Growth.{level}
use Rattle.gcx_model.specs.Core.{PlanTree, RoleRowTree}
use Rattle.gcx_model.specs.Past.{open_nodes, Opens}
use Rattle.gcx_model.specs.Placed.{row_at}
use Rattle.tree_laws.proofs.Lists.{In}
use Rattle.path_states.specs.Lists.{Climbs}
use Rattle.path_states.specs.declared.paths.PathState.{PathState}
use Rattle.matcher.specs.Frame.{IsFirst, IsFound, IsFrame}
use Rattle.matcher.specs.Parts.{at_level}
use Rattle.matcher.specs.View.{FrameView}
use Rattle.matcher.specs.declared.frames.Found.{Found}
use Rattle.matcher.proofs.Framing.{FrameMatched}
use Rattle.matcher.proofs.Upwards.{level_same}
use Rattle.matcher.proofs.NewNode.{older_above, older_in, first_stays, first_was, none_was, none_stays}

module _ (plan : PlanTree) (tree : List PathState) (path : ℕ → List Step) (P : Tree) (w : Grown P) (t : TreeToken) (n : Node) (o : Opens P t n)
    (found : List Found) (is_found : (f : Found) → In f found → IsFound plan (grow t P) n f) (found_is : (f : Found) → IsFound plan (grow t P) n f → In f found) where
  abbrev Q : Tree
  Q = grow t P

  row_one : (r : ℕ) (x y : RoleRowTree) → row_at plan.roles r ≡ Some x → row_at plan.roles r ≡ Some y → x ≡ y
  row_one r x y e f = let g : Some x ≡ Some y = sym e ∙ f in cc

  unfound_to : (a : Node) → In a (open_nodes P) → (r : ℕ) → IsFirst plan P a r None × (In (at_level r (level a)) found → ⊥) → IsFirst plan Q a r None
  unfound_to a i r s =
      let d = s.0 in
      record {
        row = d.row;
        role = d.role;
        hit = d.hit;
        is = none_stays P w t n o (serial_of a) d.row.tail d.is (λ e. s.1 (found_is (at_level r (level a)) (record {
          context = a;
          over = older_above P w t n o a i;
          at = refl;
          is = record { row = d.row; role = d.role; hit = d.hit; is = e };
        })));
      }

  unfound_from : (a : Node) → In a (open_nodes P) → (r : ℕ) → IsFirst plan Q a r None → IsFirst plan P a r None × (In (at_level r (level a)) found → ⊥)
  unfound_from a i r d = (
    record { row = d.row; role = d.role; hit = d.hit; is = none_was P w t n o (serial_of a) d.row.tail d.is },
    (λ j. (
        let f = is_found (at_level r (level a)) j in
        let same : f.context ≡ a = level_same n f.context a f.over (older_above P w t n o a i) f.at in
        let x = f.is in
        let rows : x.row ≡ d.row = row_one r x.row d.row x.role.at d.role.at in
        let e : first Q (serial_of a) d.row.tail ≡ Some n = subst (λ (z : RoleRowTree). first Q (serial_of a) z.tail ≡ Some n) rows (subst (λ (z : Node). first Q (serial_of z) x.row.tail ≡ Some n) same x.is) in
        let g : None ≡ Some n = sym d.is ∙ e in
        absurd (cc))),
  )

  found_to : (a : Node) → In a (open_nodes P) → (f : Found) → IsFound plan P a f → IsFound plan Q a f
  found_to a i f d =
      let x = d.is in
      record { context = d.context; over = d.over; at = d.at; is = record { row = x.row; role = x.role; hit = x.hit; is = first_stays P w t n o (serial_of d.context) x.row.tail a x.is } }

  found_from : (a : Node) → In a (open_nodes P) → (f : Found) → IsFound plan Q a f → IsFound plan P a f
  found_from a i f d =
      let x = d.is in
      record { context = d.context; over = d.over; at = d.at; is = record { row = x.row; role = x.role; hit = x.hit; is = first_was P w t n o (serial_of d.context) x.row.tail a (older_in P w t n o a i) x.is } }

  pub old_frame : (before now : FrameView) (a : Node) → In a (open_nodes P) → IsFrame plan P tree path before a → FrameMatched found (level a) before now → IsFrame plan Q tree path now a
  old_frame before now a i R m = record {
    active = λ c. ((λ j. (R.active c).0 (subst (λ (z : List ℕ). In c z) m.active j)), (λ h. subst (λ (z : List ℕ). In c z) (sym m.active) ((R.active c).1 h)));
    pending = λ c. ((λ j. (R.pending c).0 (subst (λ (z : List ℕ). In c z) m.pending j)), (λ h. subst (λ (z : List ℕ). In c z) (sym m.pending) ((R.pending c).1 h)));
    whole = λ r. ((λ j. (R.whole r).0 (subst (λ (z : List ℕ). In r z) m.whole j)), (λ h. subst (λ (z : List ℕ). In r z) (sym m.whole) ((R.whole r).1 h)));
    climbs = subst Climbs (sym m.whole) R.climbs;
    unfound = λ r. (
      (λ j. (let s = m.open_to r j in unfound_to a i r ((R.unfound r).0 s.0, s.1))),
      (λ d. (let s = unfound_from a i r d in m.open_from r ((R.unfound r).1 s.0, s.1))),
    );
    found = λ f. (
      (λ j. found_to a i f ((R.found f).0 (subst (λ (z : List Found). In f z) m.found_same j))),
      (λ d. subst (λ (z : List Found). In f z) (sym m.found_same) ((R.found f).1 (found_from a i f d))),
    );
  }
