use Rattle.std.proofs.Common.{◌≡◌, ℕ, true, false, cond, List, Option, Some, None, refl, sym, ◌∙◌, ap, subst, rules, arith}
use Rattle.std.specs.Prelude.{slice_get, slice_set}
use Rattle.std.specs.FinMap.{get}
use Rattle.gcx_base.specs.declared.rel.Rel.{Rel}
use Rattle.gcx_base.specs.declared.rel.Rel.TheVariants.{Eq}
use Rattle.gcx_model.specs.Truth.{settle}
use Rattle.gcx_model.specs.declared.truth.Truth.{Truth}
use Rattle.cond_eval.specs.Asking.{Asked, MayAskOver}
use Rattle.cond_eval.specs.Comparing.{comparison}
use Rattle.cond_eval.proofs.Comparisons.{row_used}
use Rattle.join_index.specs.declared.equality.Equality.{Equality}
use Rattle.join_index.specs.declared.equality.Side.{Side}
use Rattle.join_index.specs.Index.{IndexView, IsIndex, TellsTruthOf, outer_of, raised}
use Rattle.join_index.specs.Equalities.{inner_of}
use Rattle.join_index.specs.Lookups.{FindsIn, KeepsList, KeepsSeen, MayFindIn}
use Rattle.join_index.proofs.Finding.{get_below, same_get, set_get, set_twice}
use Rattle.join_index.proofs.Gathering.{rel_is}
use Rattle.join_index.proofs.Leaf.{inner_asked, inner_node, looks, looks_for, no_inner, no_outer, open_outer, outer_node}
use Rattle.join_index.proofs.indexed.Indexed.looked_up.Goals as goal

pub returns-in_default-get : goal.returns-in_default-get
returns-in_default-get g c =
    let q = c.in-Some.ensures.0 in
    let at : slice_get c.self.inside.equalities.items c.in-Some.index ≡ Some q = ap (λ (qs : List Equality). slice_get qs c.in-Some.index) (sym c.deref.ensures.value) ∙ c.in-Some.ensures.1 in
    let same = same_get c.self.inside.equalities.items c.in-Some.index q c.index.result.now at c.index.ensures in
    let none : ◌≡◌ {A = Option (ℕ × ℕ)} None (get c.args.env.now (outer_of q).var.0) = c.in_default-get.ensures ∙ ap (λ (s : Side). get c.args.env.now s.var.0) (c.outer.ensures ∙ ap outer_of same) in
    (refl, λ e has P env over a closed. no_outer c.args.buffer.now c.args.env.now c.args.left.now c.args.right.now q c.in-Some.ensures.2 none P env (subst (λ (z : Rel). Asked c.args.buffer.now.rows c.args.env.now (comparison c.args.left.now z c.args.right.now) P env) e a))

pub index-requires-2 : goal.index-requires-2
index-requires-2 g c =
    let q = c.in-Some.ensures.0 in
    let at : slice_get c.self.inside.equalities.items c.in-Some.index ≡ Some q = ap (λ (qs : List Equality). slice_get qs c.in-Some.index) (sym c.deref.ensures.value) ∙ c.in-Some.ensures.1 in
    let low = get_below c.self.inside.equalities.items c.in-Some.index q at in
    omega (arith, low, c.self.inside.equalities.ok.0)

pub returns-in_default-get-2 : goal.returns-in_default-get-2
returns-in_default-get-2 g c =
    let q = c.in-Some.ensures.0 in
    let at : slice_get c.self.inside.equalities.items c.in-Some.index ≡ Some q = ap (λ (qs : List Equality). slice_get qs c.in-Some.index) (sym c.deref.ensures.value) ∙ c.in-Some.ensures.1 in
    let same = same_get c.self.inside.equalities.items c.in-Some.index q c.index-2.result.now at c.index-2.ensures in
    let none : ◌≡◌ {A = Option (ℕ × ℕ)} None (get c.args.env.now (inner_of q).var.0) = c.in_default-get-2.ensures ∙ ap (λ (s : Side). get c.args.env.now s.var.0) (c.inner.ensures ∙ ap inner_of same) in
    (refl, λ e has P env over a closed. no_inner c.args.buffer.now c.args.env.now c.args.left.now c.args.right.now q c.in-Some.ensures.2 none P env (subst (λ (z : Rel). Asked c.args.buffer.now.rows c.args.env.now (comparison c.args.left.now z c.args.right.now) P env) e a))

pub is_closed-requires : goal.is_closed-requires
is_closed-requires g c =
    let q = c.in-Some.ensures.0 in
    let at : slice_get c.self.inside.equalities.items c.in-Some.index ≡ Some q = ap (λ (qs : List Equality). slice_get qs c.in-Some.index) (sym c.deref.ensures.value) ∙ c.in-Some.ensures.1 in
    let same = same_get c.self.inside.equalities.items c.in-Some.index q c.index.result.now at c.index.ensures in
    let outer : Some (c.in-Some-get.outer.0, c.in-Some-get.of.0) ≡ get c.args.env.now (outer_of q).var.0 = c.in-Some-get.ensures ∙ ap (λ (s : Side). get c.args.env.now s.var.0) (c.outer.ensures ∙ ap outer_of same) in
    let may : MayAskOver c.args.buffer.now (IsIndex c.args.self.now) c.args.env.now (comparison c.args.left.now Eq c.args.right.now) =
    subst (λ (z : Rel). MayAskOver c.args.buffer.now (IsIndex c.args.self.now) c.args.env.now (comparison c.args.left.now z c.args.right.now)) (rel_is c.args.rel c.if-ne.ensures) c.requires in
    row_used c.args.buffer.now.rows c.in-Some-get.outer.0 (outer_node c.args.buffer.now c.args.env.now c.args.left.now c.args.right.now q c.in-Some.ensures.2 may c.in-Some-get.outer.0 c.in-Some-get.of.0 outer)

pub returns-then-not-is_closed : goal.returns-then-not-is_closed
returns-then-not-is_closed g c =
    let q = c.in-Some.ensures.0 in
    let at : slice_get c.self.inside.equalities.items c.in-Some.index ≡ Some q = ap (λ (qs : List Equality). slice_get qs c.in-Some.index) (sym c.deref.ensures.value) ∙ c.in-Some.ensures.1 in
    let same = same_get c.self.inside.equalities.items c.in-Some.index q c.index.result.now at c.index.ensures in
    let outer : Some (c.in-Some-get.outer.0, c.in-Some-get.of.0) ≡ get c.args.env.now (outer_of q).var.0 = c.in-Some-get.ensures ∙ ap (λ (s : Side). get c.args.env.now s.var.0) (c.outer.ensures ∙ ap outer_of same) in
    let is_open : false ≡ c.is_closed.result = search rules in (
      refl,
      λ e has P env over a closed. open_outer c.args.buffer.now c.args.env.now c.args.left.now c.args.right.now q c.in-Some.ensures.2 c.in-Some-get.outer.0 c.in-Some-get.of.0 outer (λ d i p. is_open ∙ c.is_closed.ensures d i p) P env
          (subst (λ (z : Rel). Asked c.args.buffer.now.rows c.args.env.now (comparison c.args.left.now z c.args.right.now) P env) e a) closed,
    )

pub index_mut-requires : goal.index_mut-requires
index_mut-requires g c =
    let q = c.in-Some.ensures.0 in
    let at : slice_get c.self.inside.equalities.items c.in-Some.index ≡ Some q = ap (λ (qs : List Equality). slice_get qs c.in-Some.index) (sym c.deref.ensures.value) ∙ c.in-Some.ensures.1 in
    let low = get_below c.self.inside.equalities.items c.in-Some.index q at in
    omega (arith, low, c.self.inside.equalities.ok.0)

pub keep_list-requires : goal.keep_list-requires
keep_list-requires g c =
    let q = c.in-Some.ensures.0 in
    let at : slice_get c.self.inside.equalities.items c.in-Some.index ≡ Some q = ap (λ (qs : List Equality). slice_get qs c.in-Some.index) (sym c.deref.ensures.value) ∙ c.in-Some.ensures.1 in
    let same = same_get c.self.inside.equalities.items c.in-Some.index q c.index.result.now at c.index.ensures in
    let outer : Some (c.in-Some-get.outer.0, c.in-Some-get.of.0) ≡ get c.args.env.now (outer_of q).var.0 = c.in-Some-get.ensures ∙ ap (λ (s : Side). get c.args.env.now s.var.0) (c.outer.ensures ∙ ap outer_of same) in
    let may : MayAskOver c.args.buffer.now (IsIndex c.args.self.now) c.args.env.now (comparison c.args.left.now Eq c.args.right.now) =
    subst (λ (z : Rel). MayAskOver c.args.buffer.now (IsIndex c.args.self.now) c.args.env.now (comparison c.args.left.now z c.args.right.now)) (rel_is c.args.rel c.if-ne.ensures) c.requires in
    outer_node c.args.buffer.now c.args.env.now c.args.left.now c.args.right.now q c.in-Some.ensures.2 may c.in-Some-get.outer.0 c.in-Some-get.of.0 outer

pub finds-requires : goal.finds-requires
finds-requires g c =
    let v = c.args.buffer.now in
    let bound = c.args.env.now in
    let i = c.in-Some.index in
    let items = c.self.inside.equalities.items in
    let q = c.in-Some.ensures.0 in
    let is = c.in-Some.ensures.2 in
    let r = c.keep_list.new.self in
    let k : IndexView = record { marked = c.self.inside.marked; equalities = items; built = c.self.inside.built } in
    let at : slice_get items i ≡ Some q = ap (λ (qs : List Equality). slice_get qs i) (sym c.deref.ensures.value) ∙ c.in-Some.ensures.1 in
    let inner : Some (c.in-Some-get-2.inner.0, c.in-Some-get-2.inner_of.0) ≡ get bound (inner_of q).var.0 =
    c.in-Some-get-2.ensures ∙ ap (λ (s : Side). get bound s.var.0) (c.inner.ensures ∙ ap inner_of (same_get items i q c.index-2.result.now at c.index-2.ensures)) in
    let may : MayAskOver v (IsIndex k) bound (comparison c.args.left.now Eq c.args.right.now) =
    subst (λ (z : IndexView). MayAskOver v (IsIndex z) bound (comparison c.args.left.now Eq c.args.right.now)) (sym c.self.view_is)
    (subst (λ (z : Rel). MayAskOver v (IsIndex c.args.self.now) bound (comparison c.args.left.now z c.args.right.now)) (rel_is c.args.rel c.if-ne.ensures) c.requires) in
    let same = same_get items i q c.index_mut.result.now at c.index_mut.ensures.value in
    let first : KeepsList v.rows c.in-Some-get.outer.0 c.in-Some-get.of.0 q r c.in_ok-made.made =
    subst (λ (z : Equality). KeepsList v.rows c.in-Some-get.outer.0 c.in-Some-get.of.0 z r c.in_ok-made.made) same c.in_ok-made.ensures.list in
    let seen : KeepsSeen q r = subst (λ (z : Equality). KeepsSeen z r) same c.in_ok-made.ensures.seen in
    let was : c.index_mut-2.result.now ≡ r = same_get (slice_set items i r) i r c.index_mut-2.result.now (set_get items i q r at) c.index_mut-2.ensures.value in
    subst (λ (z : Equality). MayFindIn v c.in-Some-get-2.inner.0 c.in-Some-get-2.inner_of.0 z) (sym was)
    (inner_asked v bound c.args.left.now c.args.right.now q is k may i at c.in-Some-get-2.inner.0 c.in-Some-get-2.inner_of.0 inner r first.left first.right seen)

pub is_closed-requires-2 : goal.is_closed-requires-2
is_closed-requires-2 g c =
    let q = c.in-Some.ensures.0 in
    let at : slice_get c.self.inside.equalities.items c.in-Some.index ≡ Some q = ap (λ (qs : List Equality). slice_get qs c.in-Some.index) (sym c.deref.ensures.value) ∙ c.in-Some.ensures.1 in
    let same = same_get c.self.inside.equalities.items c.in-Some.index q c.index-2.result.now at c.index-2.ensures in
    let inner : Some (c.in-Some-get-2.inner.0, c.in-Some-get-2.inner_of.0) ≡ get c.args.env.now (inner_of q).var.0 = c.in-Some-get-2.ensures ∙ ap (λ (s : Side). get c.args.env.now s.var.0) (c.inner.ensures ∙ ap inner_of same) in
    let may : MayAskOver c.args.buffer.now (IsIndex c.args.self.now) c.args.env.now (comparison c.args.left.now Eq c.args.right.now) =
    subst (λ (z : Rel). MayAskOver c.args.buffer.now (IsIndex c.args.self.now) c.args.env.now (comparison c.args.left.now z c.args.right.now)) (rel_is c.args.rel c.if-ne.ensures) c.requires in
    row_used c.args.buffer.now.rows c.in-Some-get-2.inner.0 (inner_node c.args.buffer.now c.args.env.now c.args.left.now c.args.right.now q c.in-Some.ensures.2 may c.in-Some-get-2.inner.0 c.in-Some-get-2.inner_of.0 inner)

pub returns : goal.returns
returns g c =
    let v = c.args.buffer.now in
    let bound = c.args.env.now in
    let i = c.in-Some.index in
    let items = c.self.inside.equalities.items in
    let r = c.keep_list.new.self in
    let found = c.in_ok-found.found in
    let q = c.in-Some.ensures.0 in
    let is = c.in-Some.ensures.2 in
    let k : IndexView = record { marked = c.self.inside.marked; equalities = items; built = c.self.inside.built } in
    let at : slice_get items i ≡ Some q = ap (λ (qs : List Equality). slice_get qs i) (sym c.deref.ensures.value) ∙ c.in-Some.ensures.1 in
    let outer : Some (c.in-Some-get.outer.0, c.in-Some-get.of.0) ≡ get bound (outer_of q).var.0 =
    c.in-Some-get.ensures ∙ ap (λ (s : Side). get bound s.var.0) (c.outer.ensures ∙ ap outer_of (same_get items i q c.index.result.now at c.index.ensures)) in
    let inner : Some (c.in-Some-get-2.inner.0, c.in-Some-get-2.inner_of.0) ≡ get bound (inner_of q).var.0 =
    c.in-Some-get-2.ensures ∙ ap (λ (s : Side). get bound s.var.0) (c.inner.ensures ∙ ap inner_of (same_get items i q c.index-2.result.now at c.index-2.ensures)) in
    let first : KeepsList v.rows c.in-Some-get.outer.0 c.in-Some-get.of.0 q r c.in_ok-made.made =
    subst (λ (z : Equality). KeepsList v.rows c.in-Some-get.outer.0 c.in-Some-get.of.0 z r c.in_ok-made.made) (same_get items i q c.index_mut.result.now at c.index_mut.ensures.value) c.in_ok-made.ensures.list in
    let seen : KeepsSeen q r = subst (λ (z : Equality). KeepsSeen z r) (same_get items i q c.index_mut.result.now at c.index_mut.ensures.value) c.in_ok-made.ensures.seen in
    let s = c.finds.new.self in
    let was : c.index_mut-2.result.now ≡ r = same_get (slice_set items i r) i r c.index_mut-2.result.now (set_get items i q r at) c.index_mut-2.ensures.value in
    let rest : s ≡ record r { seen = s.seen } = subst (λ (z : Equality). s ≡ record z { seen = s.seen }) was c.in_ok-found.ensures.rest in
    let tells : FindsIn v c.in-Some-get-2.inner.0 c.in-Some-get-2.inner_of.0 r s found = subst (λ (z : Equality). FindsIn v c.in-Some-get-2.inner.0 c.in-Some-get-2.inner_of.0 z s found) was c.in_ok-found.ensures.found in
    let shut : true ≡ c.is_closed.result = search rules in
    let now : IndexView = record { marked = k.marked; equalities = slice_set items i s; built = c.risen-self-inside.result } in
    let told : TellsTruthOf v bound (comparison c.args.left.now Eq c.args.right.now) k now (settle found c.is_closed-2.result) =
    subst (λ (n : ℕ). TellsTruthOf v bound (comparison c.args.left.now Eq c.args.right.now) k (record { marked = k.marked; equalities = slice_set items i s; built = n }) (settle found c.is_closed-2.result)) (sym c.risen-self-inside.ensures)
    (looks_for v bound c.args.left.now c.args.right.now q is k (record { marked = k.marked; equalities = slice_set items i s; built = raised k.built (cond c.in_ok-made.made 1 0) }) (settle found c.is_closed-2.result)
    (looks v bound k i q r s c.in-Some-get.outer.0 c.in-Some-get.of.0 c.in-Some-get-2.inner.0 c.in-Some-get-2.inner_of.0 c.in_ok-made.made found at outer inner first seen rest tells c.is_closed-2.result (λ d j p. shut ∙ c.is_closed.ensures d j p) c.is_closed-2.ensures)) in
    let twice : slice_set (slice_set items i r) i s ≡ slice_set items i s = set_twice items i r s in
    subst (λ (es : List Equality). TellsTruthOf v bound (comparison c.args.left.now c.args.rel c.args.right.now) c.args.self.now (record { marked = k.marked; equalities = es; built = c.risen-self-inside.result }) c.settle.result) (sym twice)
    (subst (λ (z : IndexView). TellsTruthOf v bound (comparison c.args.left.now c.args.rel c.args.right.now) z now c.settle.result) c.self.view_is
    (subst (λ (z : Rel). TellsTruthOf v bound (comparison c.args.left.now z c.args.right.now) k now c.settle.result) (sym (rel_is c.args.rel c.if-ne.ensures))
    (subst (λ (t : Truth). TellsTruthOf v bound (comparison c.args.left.now Eq c.args.right.now) k now t) (sym c.settle.ensures) told)))
