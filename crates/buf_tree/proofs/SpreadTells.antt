-- What is kept of a plan tells which roles are spread, of each of them the statement that reaches its tops alone, and where no other base can be.
use Rattle.std.proofs.Common.{◌≡◌, ℕ, Bool, true, false, cond, List, refl, sym, ◌∙◌, ap, Some, None, Option}
use Rattle.std.specs.Prelude.{option_map, is_some, slice_index_or}
use Rattle.std.proofs.Math.ListN.{get_or-map}
use Rattle.std.proofs.lemmas.Bool.{false≢true, true≢false}
use Rattle.gcx_model.specs.declared.item.Off.{Off}
use Rattle.gcx_model.specs.ItemView.{off_tree}
use Rattle.gcx_model.specs.Core.{OffTree}
use Rattle.gcx_model.specs.Placed.{offs_in}
use Rattle.gcx_model.specs.Held.{path_of, statement_of, on_off}
use Rattle.gcx_model.specs.Past.{Past, IsPast}
use Rattle.gcx_model.specs.Variables.{all_child}
use Rattle.tree_laws.proofs.Lists.{In}
use Rattle.past_laws.proofs.Bases.{tells}
use Rattle.placed_laws.proofs.PlanStatements.{one_statement_law}
use Rattle.spread_laws.specs.Tops.{is_whole_kind, is_spread, top_off, top_in}
use Rattle.spread_laws.proofs.Tables.{tables_tell}
use Rattle.buf_tree.specs.Spread.{SpreadView, SpreadsAs, is_spread_in, is_alone_in}
use Rattle.buf_tree.specs.Tops.{OwnApart}
use Rattle.buf_tree.specs.Withdraw.{top_for}

pub some_same : {X : Type 0} (x y : X) → Some x ≡ Some y → x ≡ y
some_same x y e = cc

-- an entry of the table, and none
pub none_of : (o : Option Off) → option_map off_tree o ≡ None → o ≡ None
none_of None e = refl
none_of (Some x) e = absurd (cc)

pub some_of : (o : Option Off) (y : OffTree) → option_map off_tree o ≡ Some y → (x : Off) × (o ≡ Some x) × (off_tree x ≡ y)
some_of None y e = absurd (cc)
some_of (Some x) y e = (x, refl, some_same (off_tree x) y e)

module _ (past : Past) (is : IsPast past) (s : SpreadView) (h : SpreadsAs (Some s) past.plan) where
  -- of each role the statement
  pub top_tells : (r : ℕ) → option_map off_tree (slice_index_or s.tops r None) ≡ top_in (statement_of past.plan r)
  top_tells r =
      sym (get_or-map (option_map off_tree) s.tops r None)
      ∙ (ap (λ (ts : List (Option OffTree)). slice_index_or ts r None) h.tops ∙ (tables_tell is.core is.good past.plan is.placed).0 r)

  spread_tells : (r : ℕ) → is_some (slice_index_or s.tops r None) ≡ is_spread past.plan r
  spread_tells r = mapped (slice_index_or s.tops r None) ∙ (ap is_some (top_tells r) ∙ stated (statement_of past.plan r))
    where
      mapped : (o : Option Off) → is_some o ≡ is_some (option_map off_tree o)
      mapped None = refl
      mapped (Some o) = refl

      stated : (o : Option OffTree) → is_some (top_in o) ≡ on_off (λ (s : OffTree). is_whole_kind s.kind) o
      stated None = refl
      stated (Some o) = go (is_whole_kind o.kind)
        where
          go : (b : Bool) → is_some (cond b (Some (top_off o)) None) ≡ b
          go true = refl
          go false = refl

  alone_tells : (x : ℕ) → slice_index_or s.alone x true ≡ all_child (path_of past.plan x)
  alone_tells x = ap (λ (bs : List Bool). slice_index_or bs x true) h.alone ∙ (tables_tell is.core is.good past.plan is.placed).1 x

module _ (past : Past) (is : IsPast past) where
  -- the roles that are spread are those of the plan
  pub spreads : (s : SpreadView) → SpreadsAs (Some s) past.plan → (r : ℕ) → is_spread_in (Some s) r ≡ is_spread past.plan r
  spreads s h r = spread_tells past is s h r

  -- no base can be another one where the path has no descendant step
  pub alone_is : (sv : Option SpreadView) → SpreadsAs sv past.plan → (x : ℕ) → is_alone_in sv x ≡ true → all_child (path_of past.plan x) ≡ true
  alone_is None h x e = absurd (false≢true e)
  alone_is (Some s) h x e = sym (alone_tells past is s h x) ∙ e

  -- a base's own role isn't spread
  own_tree : (o : OffTree) → In o (offs_in past.plan.body) → is_spread past.plan o.own ≡ false
  own_tree o i =
      let t = tells past is o i in
      let own = (tells past is t.own t.own_in).stated in
      ap (is_spread past.plan) (sym t.own_role) ∙ (ap (on_off (λ (x : OffTree). is_whole_kind x.kind)) own ∙ ap is_whole_kind t.own_kind)

  -- so it isn't in the table
  pub own_apart : (s : SpreadView) → SpreadsAs (Some s) past.plan → OwnApart s.tops
  own_apart s h r top e = go (statement_of past.plan r) refl (sym (ap (option_map off_tree) e) ∙ top_tells past is s h r)
    where
      none_is : (o : Option Off) → is_some o ≡ false → o ≡ None
      none_is None f = refl
      none_is (Some x) f = absurd (true≢false f)

      at : (o : OffTree) → statement_of past.plan r ≡ Some o → (b : Bool) → Some (off_tree top) ≡ cond b (Some (top_off o)) None → slice_index_or s.tops top.own.0 None ≡ None
      at o f true k =
          let same : off_tree top ≡ top_off o = some_same (off_tree top) (top_off o) k in
          let own : top.own.0 ≡ o.own = ap (λ (x : OffTree). x.own) same in
          let i = (one_statement_law is.core is.good past.plan is.placed r o).0 f in
          none_is (slice_index_or s.tops top.own.0 None) (ap (λ (q : ℕ). is_some (slice_index_or s.tops q None)) own ∙ (spread_tells past is s h o.own ∙ own_tree o i.0))
      at o f false k = absurd (cc)

      go : (o : Option OffTree) → statement_of past.plan r ≡ o → Some (off_tree top) ≡ top_in o → slice_index_or s.tops top.own.0 None ≡ None
      go None f k = absurd (cc)
      go (Some o) f k = at o f (is_whole_kind o.kind) k

  module _ (off : Off) (stated : In (off_tree off) (offs_in past.plan.body)) where
    -- a base's own role isn't spread, whichever are
    pub own_plain : (sv : Option SpreadView) → SpreadsAs sv past.plan → is_spread_in sv off.own.0 ≡ false
    own_plain None h = refl
    own_plain (Some s) h = spread_tells past is s h off.own.0 ∙ own_tree (off_tree off) stated

    -- of a statement whose role isn't spread nothing is kept
    pub top_none : (sv : Option SpreadView) → top_for sv off ≡ None → is_spread_in sv off.role.0 ≡ false
    top_none None e = refl
    top_none (Some s) e = ap is_some e

    -- and of another one that which reaches its tops alone
    pub top_is : (sv : Option SpreadView) → SpreadsAs sv past.plan → (top : Off) → top_for sv off ≡ Some top → (off_tree top ≡ top_off (off_tree off)) × (is_whole_kind (off_tree off).kind ≡ true)
    top_is None h top e = absurd (cc)
    top_is (Some s) h top e =
        go (is_whole_kind (off_tree off).kind) refl
        (sym (ap (option_map off_tree) e) ∙ (top_tells past is s h off.role.0 ∙ ap top_in (tells past is (off_tree off) stated).stated))
      where
        go : (b : Bool) → is_whole_kind (off_tree off).kind ≡ b → Some (off_tree top) ≡ cond b (Some (top_off (off_tree off))) None → (off_tree top ≡ top_off (off_tree off)) × (is_whole_kind (off_tree off).kind ≡ true)
        go true f k = (some_same (off_tree top) (top_off (off_tree off)) k, f)
        go false f k = absurd (cc)
