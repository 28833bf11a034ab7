-- Truths and the times from which on they are known.
use Rattle.std.proofs.Common.{◌≡◌, ℕ, ◌+◌, ◌<◌, ◌≤◌, true, false, List, [], ◌∷◌, ◌++◌, length, map, max, take, drop, get_or, slice_get, None, refl, sym, ◌∙◌, ap, arith}
use Rattle.std.specs.Global.{Vec}
use Rattle.std.proofs.lemmas.List.{drop_all, drop_more, map-append, take_more}
use Rattle.gcx_base.specs.declared.steps.Step.{Step}
use Rattle.gcx_model.specs.CondView.{core_cond_tree, core_conds_of}
use Rattle.gcx_model.specs.Core.{CondTree, OperandTree, Path, Str, Num, Always, Exists, Compare, Not, AllOf, AnyOf}
use Rattle.gcx_model.specs.Paths.{matches}
use Rattle.gcx_model.specs.Truth.{node_value}
use Rattle.gcx_model.specs.Tree.{Node, serial_of, Tree}
use Rattle.gcx_model.specs.Truth.{Env}
use Rattle.gcx_model.specs.Values.{Bytes, compare}
use Rattle.gcx_model.specs.declared.cond.Cond.{Cond}
use Rattle.gcx_model.specs.Paths.{value}
use Rattle.tree_laws.proofs.Matches.{Grown}
use Rattle.doc_tree.specs.Rows.{node_at}
use Rattle.time_laws.specs.Times.{Clock, SettledTruth, TimedValue, exists_settled, both_settled, compare_settled, earliest, either_settled, over_at, settled, settled_all, settled_any, timed_values}
use Rattle.trace_check.specs.Memoing.{IsAtom, left_in, right_in, side_in}
use Rattle.trace_check.specs.Scopes.{env_of}
use Rattle.trace_check.specs.Settling.{no_sooner, timed_in, value_at}
use Rattle.trace_check.specs.Timing.{clock_in}
use Rattle.trace_check.specs.declared.scope.Binding.{Binding}
use Rattle.trace_check.specs.declared.timed.Timed.{Timed}
use Rattle.trace_check.specs.declared.values.TimedValue as code
use Rattle.trace_check.specs.declared.values.Value.TheVariants as compared
use Rattle.trace_check.proofs.Numbers.{map_numbers, node_by}

-- the values of what the steps reach
pub values_found : (t : Timed) → Grown t.tree → (n : ℕ) (steps : List Step)
    → map (value_at t) (map serial_of (matches t.tree n steps)) ≡ map (λ m. ((clock_in t).closed (serial_of m), node_value t.tree m)) (matches t.tree n steps)
values_found t w n steps =
    map_numbers t.tree w (value_at t) (λ m. ((clock_in t).closed (serial_of m), node_value t.tree m))
    (λ m i. ap (λ (x : Node). ((clock_in t).closed (serial_of m), Bytes (value t.tree x))) (node_by t.tree w m i)) n steps

-- one value more
pub values_more : (t : Timed) (ns : List ℕ) (i : ℕ) (old new : List code.TimedValue) (at : ℕ) (bytes : Vec ℕ) → i < length ns → map timed_in old ≡ map (value_at t) (take i ns)
    → new ≡ old ++ (record { at = at; value = compared.Bytes bytes }) ∷ [] → at ≡ (clock_in t).closed (get_or ns i 0) → bytes.items ≡ value t.tree (node_at t.tree.nodes (get_or ns i 0))
    → map timed_in new ≡ map (value_at t) (take (i + 1) ns)
values_more t ns i old new at bytes l h e a b =
    let before : List TimedValue = map (value_at t) (take i ns) in
    ap (map timed_in) e
    ∙ (map-append timed_in old ((record { at = at; value = compared.Bytes bytes }) ∷ [])
    ∙ (ap (λ (vs : List TimedValue). vs ++ (at, Bytes bytes.items) ∷ []) h
    ∙ (ap (λ (x : ℕ). before ++ (x, Bytes bytes.items) ∷ []) a
    ∙ (ap (λ (y : List ℕ). before ++ ((clock_in t).closed (get_or ns i 0), Bytes y) ∷ []) b
    ∙ (sym (map-append (value_at t) (take i ns) (get_or ns i 0 ∷ [])) ∙ ap (map (value_at t)) (sym (take_more ns i 0 l)))))))

pub exists_none : (c : Clock) (ms : List Node) (over : ℕ) → slice_get (map serial_of ms) 0 ≡ None → exists_settled c ms over ≡ record { at = over; truth = false }
exists_none c [] over e = refl
exists_none c (m ∷ ms) over e = absurd (cc)

-- ---- connectives, from the left

pub all_over : (at : ℕ) (k rest : SettledTruth) → k.truth ≡ false → no_sooner at (both_settled k rest) ≡ record { at = max at k.at; truth = false }
all_over at k rest e = rw (e) refl

pub any_over : (at : ℕ) (k rest : SettledTruth) → k.truth ≡ true → no_sooner at (either_settled k rest) ≡ record { at = max at k.at; truth = true }
any_over at k rest e = rw (e) refl

-- the members from an index on
module _ (c : Clock) (C : Tree) (env : Env) (items : List Cond) (k : ℕ) where
  abbrev alls : List Cond → SettledTruth
  alls l = settled_all c C (core_conds_of (map core_cond_tree l)) env

  abbrev anys : List Cond → SettledTruth
  anys l = settled_any c C (core_conds_of (map core_cond_tree l)) env

  from_here : (i : Cond) → k < length items → i ≡ get_or items k i → drop k items ≡ i ∷ drop (k + 1) items
  from_here i l e = drop_more items k i l ∙ ap (λ (x : Cond). x ∷ drop (k + 1) items) (sym e)

  pub all_ends : (i : Cond) (at : ℕ) (known whole : SettledTruth) → k < length items → i ≡ get_or items k i → known ≡ settled c C (core_cond_tree i) env → known.truth ≡ false
      → no_sooner at (alls (drop k items)) ≡ whole → (let s : SettledTruth = record { at = max at known.at; truth = false } in s) ≡ whole
  all_ends i at known whole l e same f h =
      sym (all_over at known (alls (drop (k + 1) items)) f)
      ∙ (ap (λ (s : SettledTruth). no_sooner at (both_settled s (alls (drop (k + 1) items)))) same
      ∙ (ap (λ (l : List Cond). no_sooner at (alls l)) (sym (from_here i l e)) ∙ h))

  pub any_ends : (i : Cond) (at : ℕ) (known whole : SettledTruth) → k < length items → i ≡ get_or items k i → known ≡ settled c C (core_cond_tree i) env → known.truth ≡ true
      → no_sooner at (anys (drop k items)) ≡ whole → (let s : SettledTruth = record { at = max at known.at; truth = true } in s) ≡ whole
  any_ends i at known whole l e same f h =
      sym (any_over at known (anys (drop (k + 1) items)) f)
      ∙ (ap (λ (s : SettledTruth). no_sooner at (either_settled s (anys (drop (k + 1) items)))) same
      ∙ (ap (λ (l : List Cond). no_sooner at (anys l)) (sym (from_here i l e)) ∙ h))

  -- all of them were asked
  pub all_done : (at : ℕ) (whole : SettledTruth) → length items ≤ k → no_sooner at (alls (drop k items)) ≡ whole → (let s : SettledTruth = record { at = at; truth = true } in s) ≡ whole
  all_done at whole l h =
      let z : at ≡ max at 0 = omega arith in
      ap (λ (x : ℕ). let s : SettledTruth = record { at = x; truth = true } in s) z ∙ (ap (λ (l : List Cond). no_sooner at (alls l)) (sym (drop_all k items l)) ∙ h)

  pub any_done : (at : ℕ) (whole : SettledTruth) → length items ≤ k → no_sooner at (anys (drop k items)) ≡ whole → (let s : SettledTruth = record { at = at; truth = false } in s) ≡ whole
  any_done at whole l h =
      let z : at ≡ max at 0 = omega arith in
      ap (λ (x : ℕ). let s : SettledTruth = record { at = x; truth = false } in s) z ∙ (ap (λ (l : List Cond). no_sooner at (anys l)) (sym (drop_all k items l)) ∙ h)

-- a condition without connectives depends on the nodes of its variables alone
module _ (c : Clock) (C : Tree) (bs cs : List Binding) where
  same_values : (o : OperandTree) → side_in bs o ≡ side_in cs o → timed_values c C (env_of C bs) o ≡ timed_values c C (env_of C cs) o
  same_values (Path x steps) e = ap (λ (n : ℕ). map (λ m. (c.closed (serial_of m), node_value C m)) (matches C (serial_of (node_at C.nodes n)) steps)) e
  same_values (Str b) e = refl
  same_values (Num l) e = refl

  same_over : (o : OperandTree) → side_in bs o ≡ side_in cs o → over_at c (env_of C bs) o ≡ over_at c (env_of C cs) o
  same_over (Path x steps) e = ap (λ (n : ℕ). c.closed (serial_of (node_at C.nodes n))) e
  same_over (Str b) e = refl
  same_over (Num l) e = refl

  pub same_sides : (k : CondTree) → IsAtom k → left_in bs k ≡ left_in cs k → right_in bs k ≡ right_in cs k → settled c C k (env_of C bs) ≡ settled c C k (env_of C cs)
  same_sides Always a l r = absurd a
  same_sides (Exists x steps) a l r = ap (λ (n : ℕ). exists_settled c (matches C (serial_of (node_at C.nodes n)) steps) (c.closed (serial_of (node_at C.nodes n)))) l
  same_sides (Compare p rel q) a l r =
      ap (λ (vs : List TimedValue). compare_settled (earliest (compare rel) vs (timed_values c C (env_of C bs) q)) (max (over_at c (env_of C bs) p) (over_at c (env_of C bs) q))) (same_values p l)
      ∙ (ap (λ (ws : List TimedValue). compare_settled (earliest (compare rel) (timed_values c C (env_of C cs) p) ws) (max (over_at c (env_of C bs) p) (over_at c (env_of C bs) q))) (same_values q r)
      ∙ (ap (λ (x : ℕ). compare_settled (earliest (compare rel) (timed_values c C (env_of C cs) p) (timed_values c C (env_of C cs) q)) (max x (over_at c (env_of C bs) q))) (same_over p l)
      ∙ ap (λ (x : ℕ). compare_settled (earliest (compare rel) (timed_values c C (env_of C cs) p) (timed_values c C (env_of C cs) q)) (max (over_at c (env_of C cs) p) x)) (same_over q r)))
  same_sides (Not k) a l r = absurd a
  same_sides (AllOf ks) a l r = absurd a
  same_sides (AnyOf ks) a l r = absurd a
