-- Derivations of the pieces of conditions.
use Rattle.std.proofs.Common.{ℕ, ◌≡◌, ◌+◌, List, [], ◌∷◌, ◌++◌, flat_map, refl, sym, ap, ◌∙◌, subst, append-nil}
use Rattle.gcx_base.specs.declared.rel.Rel.{Rel}
use Rattle.gcx_model.specs.declared.query.PathExpr.{PathExpr}
use Rattle.gcx_model.specs.declared.query.QOperand.{QOperand}
use Rattle.gcx_model.specs.declared.query.QOperand.TheVariants as operand
use Rattle.gcx_model.specs.Query as query
use Rattle.gcx_model.specs.Query.{QueryCondTree, QueryCondTrees, conds_of}
use Rattle.xq_lex.specs.declared.sign.Sign.TheVariants as signs
use Rattle.xq_parse.specs.Tokens.{Token, TName, TNum, TStr, TSign, or_, and_, not_, exists_}
use Rattle.xq_parse.specs.Grammar as g
use Rattle.xq_parse.specs.Grammar.{all_of, any_of, cond_tokens, derived_cond, ors_tokens, ors_tree, all_tokens, all_tree, ands_tokens, ands_tree, atom_tokens, atom_tree, CondFits, OrsFits, AllFits, AndsFits, AtomFits}
use Rattle.xq_print.specs.declared.cond.Joint.{Joint}
use Rattle.xq_print.specs.declared.cond.Joint.TheVariants.{And, Or}
use Rattle.xq_print.specs.Printed.{is_enclosed}
use Rattle.xq_print.proofs.Pieces.{Piece, mark, in_parens, path_pieces, rel_pieces, operand_pieces, joint_pieces, enclosed_pieces, cond_pieces, members_pieces}
use Rattle.xq_print.proofs.Placing.{place, later, behind, placed, in_place}
use Rattle.xq_print.proofs.Shape.{MayOpen, IsPath, AreSides, CondShape, MembersShape, MemberShape, SomeConds}
use Rattle.xq_print.proofs.PathsDerived.{Derived, PathAt, path_at, OperandAt, operand_at, rel_spelled}

abbrev pub CondAs : (limit n : ℕ) → List Token → QueryCondTree → Type 0
CondAs limit n ts c = Derived cond_tokens derived_cond (CondFits limit n) c ts

abbrev AllAs : (limit n : ℕ) → List Token → QueryCondTree → Type 0
AllAs limit n ts c = Derived all_tokens all_tree (AllFits limit n) c ts

abbrev AtomAs : (limit n : ℕ) → List Token → QueryCondTree → Type 0
AtomAs limit n ts c = Derived atom_tokens atom_tree (AtomFits limit n) c ts

all_from : (limit n : ℕ) (ts : List Token) (c : QueryCondTree) → AtomAs limit n ts c → AllAs limit n ts c
all_from limit n ts c a = record { derivation = g.all a.derivation g.no_and; fits = (a.fits, tt); tree_is = a.tree_is; spelled = append-nil (atom_tokens a.derivation) ∙ a.spelled }

cond_from : (limit n : ℕ) (ts : List Token) (c : QueryCondTree) → AllAs limit n ts c → CondAs limit n ts c
cond_from limit n ts c a = record { derivation = g.cond_of a.derivation g.no_or; fits = (a.fits, tt); tree_is = a.tree_is; spelled = append-nil (all_tokens a.derivation) ∙ a.spelled }

abbrev pub CondAt : (limit n : ℕ) → List ℕ → QueryCondTree → Type 0
CondAt limit n ps c = CondAs limit n (placed ps (cond_pieces c)) c

abbrev AllAt : (limit n : ℕ) → List ℕ → QueryCondTree → Type 0
AllAt limit n ps c = AllAs limit n (placed ps (cond_pieces c)) c

abbrev AtomAt : (limit n : ℕ) → List ℕ → QueryCondTree → Type 0
AtomAt limit n ps c = AtomAs limit n (placed ps (cond_pieces c)) c

-- what it is without parentheses
abbrev BareAt : (limit n : ℕ) → List ℕ → QueryCondTree → Type 0
BareAt limit n ps query.QueryAlways = AtomAt limit n ps query.QueryAlways
BareAt limit n ps (query.QueryExists p) = AtomAt limit n ps (query.QueryExists p)
BareAt limit n ps (query.QueryCompare l r o) = AtomAt limit n ps (query.QueryCompare l r o)
BareAt limit n ps (query.QueryNot c) = AtomAt limit n ps (query.QueryNot c)
BareAt limit n ps (query.QueryAll cs) = AllAt limit n ps (query.QueryAll cs)
BareAt limit n ps (query.QueryAny cs) = CondAt limit n ps (query.QueryAny cs)

cond_of_bare : (limit n : ℕ) (ps : List ℕ) (c : QueryCondTree) → BareAt limit n ps c → CondAt limit n ps c
cond_of_bare limit n ps query.QueryAlways b = cond_from limit n _ _ (all_from limit n _ _ b)
cond_of_bare limit n ps (query.QueryExists p) b = cond_from limit n _ _ (all_from limit n _ _ b)
cond_of_bare limit n ps (query.QueryCompare l r o) b = cond_from limit n _ _ (all_from limit n _ _ b)
cond_of_bare limit n ps (query.QueryNot c) b = cond_from limit n _ _ (all_from limit n _ _ b)
cond_of_bare limit n ps (query.QueryAll cs) b = cond_from limit n _ _ b
cond_of_bare limit n ps (query.QueryAny cs) b = b

abbrev member_pieces : Joint → QueryCondTree → List Piece
member_pieces joint c = enclosed_pieces (is_enclosed joint c) (cond_pieces c)

-- its parentheses are one construct
in_group : (limit n : ℕ) (ps : List ℕ) (c : QueryCondTree) → MayOpen limit n → CondAt limit (n + 1) (later ps) c → AtomAs limit n (placed ps (in_parens (cond_pieces c))) c
in_group limit n ps c m a = record {
  derivation = g.grouped a.derivation;
  fits = (m, a.fits);
  tree_is = a.tree_is;
  spelled = ap (λ (ts : List Token). TSign signs.ParenOpen ∷ ts) (in_place (later ps) (cond_pieces c) (mark signs.ParenClose ∷ []) a.spelled refl);
}

abbrev Bares : (limit : ℕ) → QueryCondTree → Type 0
Bares limit c = (n : ℕ) (ps : List ℕ) → CondShape limit n c → BareAt limit n ps c

and_member : (limit n : ℕ) (ps : List ℕ) (c : QueryCondTree) → Bares limit c → MemberShape limit n And c → AtomAs limit n (placed ps (member_pieces And c)) c
and_member limit n ps query.QueryAlways f h = f n ps h
and_member limit n ps (query.QueryExists p) f h = f n ps h
and_member limit n ps (query.QueryCompare l r o) f h = f n ps h
and_member limit n ps (query.QueryNot c) f h = f n ps h
and_member limit n ps (query.QueryAll cs) f h = in_group limit n ps (query.QueryAll cs) h.0 (cond_of_bare limit (n + 1) (later ps) (query.QueryAll cs) (f (n + 1) (later ps) h.1))
and_member limit n ps (query.QueryAny cs) f h = in_group limit n ps (query.QueryAny cs) h.0 (f (n + 1) (later ps) h.1)

or_member : (limit n : ℕ) (ps : List ℕ) (c : QueryCondTree) → Bares limit c → MemberShape limit n Or c → AllAs limit n (placed ps (member_pieces Or c)) c
or_member limit n ps query.QueryAlways f h = all_from limit n _ _ (f n ps h)
or_member limit n ps (query.QueryExists p) f h = all_from limit n _ _ (f n ps h)
or_member limit n ps (query.QueryCompare l r o) f h = all_from limit n _ _ (f n ps h)
or_member limit n ps (query.QueryNot c) f h = all_from limit n _ _ (f n ps h)
or_member limit n ps (query.QueryAll cs) f h = f n ps h
or_member limit n ps (query.QueryAny cs) f h = all_from limit n _ _ (in_group limit n ps (query.QueryAny cs) h.0 (f (n + 1) (later ps) h.1))

exists_at : (limit n : ℕ) (ps : List ℕ) (p : PathExpr) → IsPath p → AtomAt limit n ps (query.QueryExists p)
exists_at limit n ps p h =
    let path : PathAt (later (later ps)) p = path_at p h (later (later ps)) in
    record {
      derivation = g.existing path.derivation;
      fits = tt;
      tree_is = ap query.QueryExists path.tree_is;
      spelled = ap (λ (ts : List Token). TName exists_ ∷ TSign signs.ParenOpen ∷ ts) (in_place (later (later ps)) (path_pieces p) (mark signs.ParenClose ∷ []) path.spelled refl);
    }

not_at : (limit n : ℕ) (ps : List ℕ) (c : QueryCondTree) → MayOpen limit n → CondAt limit (n + 1) (later (later ps)) c → AtomAt limit n ps (query.QueryNot c)
not_at limit n ps c m a = record {
  derivation = g.negated a.derivation;
  fits = (m, a.fits);
  tree_is = ap query.QueryNot a.tree_is;
  spelled = ap (λ (ts : List Token). TName not_ ∷ TSign signs.ParenOpen ∷ ts) (in_place (later (later ps)) (cond_pieces c) (mark signs.ParenClose ∷ []) a.spelled refl);
}

compare_at : (limit n : ℕ) (ps : List ℕ) (l : QOperand) (r : Rel) (o : QOperand) → AreSides l o → AtomAt limit n ps (query.QueryCompare l r o)
compare_at limit n ps (operand.Path p) r o h =
    let path : PathAt ps p = path_at p h.0 ps in
    let left : List ℕ = behind (path_pieces p) ps in
    let side : OperandAt (later left) o = operand_at o h.1 (later left) in
    record {
      derivation = g.compared path.derivation r side.derivation;
      fits = tt;
      tree_is = (λ i. query.QueryCompare (operand.Path (path.tree_is i)) r (side.tree_is i));
      spelled = in_place ps (path_pieces p) (rel_pieces r ++ operand_pieces o) path.spelled (λ i. rel_spelled r (place left) i ∷ side.spelled i);
    }
compare_at limit n ps (operand.Str x) r (operand.Path p) h =
    let path : PathAt (later (later ps)) p = path_at p h (later (later ps)) in
    record { derivation = g.literal_first (g.text x) r path.derivation; fits = tt; tree_is = (λ i. query.QueryCompare (operand.Str x) r (operand.Path (path.tree_is i))); spelled = (λ i. TStr x ∷ rel_spelled r (place (later ps)) i ∷ path.spelled i) }
compare_at limit n ps (operand.Num u) r (operand.Path p) h =
    let path : PathAt (later (later ps)) p = path_at p h (later (later ps)) in
    record { derivation = g.literal_first (g.number u) r path.derivation; fits = tt; tree_is = (λ i. query.QueryCompare (operand.Num u) r (operand.Path (path.tree_is i))); spelled = (λ i. TNum u ∷ rel_spelled r (place (later ps)) i ∷ path.spelled i) }
compare_at limit n ps (operand.Str x) r (operand.Str y) h = absurd h
compare_at limit n ps (operand.Str x) r (operand.Num u) h = absurd h
compare_at limit n ps (operand.Num u) r (operand.Str y) h = absurd h
compare_at limit n ps (operand.Num u) r (operand.Num v) h = absurd h

many_all : (c : QueryCondTree) (cs : QueryCondTrees) (ds : List QueryCondTree) → SomeConds cs → conds_of ds ≡ cs → all_of (c ∷ ds) ≡ query.QueryAll (query.more_query_conds c cs)
many_all c cs [] h e = absurd (subst SomeConds (sym e) h)
many_all c cs (d ∷ ds) h e = ap (λ (l : QueryCondTrees). query.QueryAll (query.more_query_conds c l)) e

many_any : (c : QueryCondTree) (cs : QueryCondTrees) (ds : List QueryCondTree) → SomeConds cs → conds_of ds ≡ cs → any_of (c ∷ ds) ≡ query.QueryAny (query.more_query_conds c cs)
many_any c cs [] h e = absurd (subst SomeConds (sym e) h)
many_any c cs (d ∷ ds) h e = ap (λ (l : QueryCondTrees). query.QueryAny (query.more_query_conds c l)) e

-- the members but the first
abbrev later_pieces : Joint → QueryCondTrees → List Piece
later_pieces joint cs = flat_map (λ q. joint_pieces joint ++ q) (members_pieces joint cs)

abbrev AndsAt : (limit n : ℕ) → List ℕ → QueryCondTrees → Type 0
AndsAt limit n ps cs = Derived ands_tokens (λ bs. conds_of (ands_tree bs)) (AndsFits limit n) cs (placed ps (later_pieces And cs))

abbrev OrsAt : (limit n : ℕ) → List ℕ → QueryCondTrees → Type 0
OrsAt limit n ps cs = Derived ors_tokens (λ os. conds_of (ors_tree os)) (OrsFits limit n) cs (placed ps (later_pieces Or cs))

all_at : (limit n : ℕ) (ps : List ℕ) (c : QueryCondTree) (cs : QueryCondTrees) → SomeConds cs → AtomAs limit n (placed ps (member_pieces And c)) c → AndsAt limit n (behind (member_pieces And c) ps) cs → AllAt limit n ps (query.QueryAll (query.more_query_conds c cs))
all_at limit n ps c cs h a bs = record {
  derivation = g.all a.derivation bs.derivation;
  fits = (a.fits, bs.fits);
  tree_is = ap (λ (d : QueryCondTree). all_of (d ∷ ands_tree bs.derivation)) a.tree_is ∙ many_all c cs (ands_tree bs.derivation) h bs.tree_is;
  spelled = in_place ps (member_pieces And c) (later_pieces And cs) a.spelled bs.spelled;
}

any_at : (limit n : ℕ) (ps : List ℕ) (c : QueryCondTree) (cs : QueryCondTrees) → SomeConds cs → AllAs limit n (placed ps (member_pieces Or c)) c → OrsAt limit n (behind (member_pieces Or c) ps) cs → CondAt limit n ps (query.QueryAny (query.more_query_conds c cs))
any_at limit n ps c cs h a os = record {
  derivation = g.cond_of a.derivation os.derivation;
  fits = (a.fits, os.fits);
  tree_is = ap (λ (d : QueryCondTree). any_of (d ∷ ors_tree os.derivation)) a.tree_is ∙ many_any c cs (ors_tree os.derivation) h os.tree_is;
  spelled = in_place ps (member_pieces Or c) (later_pieces Or cs) a.spelled os.spelled;
}

and_more_at : (limit n : ℕ) (ps : List ℕ) (c : QueryCondTree) (cs : QueryCondTrees) → AtomAs limit n (placed (later ps) (member_pieces And c)) c → AndsAt limit n (behind (member_pieces And c) (later ps)) cs → AndsAt limit n ps (query.more_query_conds c cs)
and_more_at limit n ps c cs a bs = record {
  derivation = g.and_more a.derivation bs.derivation;
  fits = (a.fits, bs.fits);
  tree_is = (λ i. query.more_query_conds (a.tree_is i) (bs.tree_is i));
  spelled = ap (λ (ts : List Token). TName and_ ∷ ts) (in_place (later ps) (member_pieces And c) (later_pieces And cs) a.spelled bs.spelled);
}

or_more_at : (limit n : ℕ) (ps : List ℕ) (c : QueryCondTree) (cs : QueryCondTrees) → AllAs limit n (placed (later ps) (member_pieces Or c)) c → OrsAt limit n (behind (member_pieces Or c) (later ps)) cs → OrsAt limit n ps (query.more_query_conds c cs)
or_more_at limit n ps c cs a os = record {
  derivation = g.or_more a.derivation os.derivation;
  fits = (a.fits, os.fits);
  tree_is = (λ i. query.more_query_conds (a.tree_is i) (os.tree_is i));
  spelled = ap (λ (ts : List Token). TName or_ ∷ ts) (in_place (later ps) (member_pieces Or c) (later_pieces Or cs) a.spelled os.spelled);
}

mutual
  bare_at : (limit : ℕ) (c : QueryCondTree) → Bares limit c
  bare_at limit query.QueryAlways n ps h = record { derivation = g.always; fits = tt; tree_is = refl; spelled = refl }
  bare_at limit (query.QueryExists p) n ps h = exists_at limit n ps p h
  bare_at limit (query.QueryCompare l r o) n ps h = compare_at limit n ps l r o h
  bare_at limit (query.QueryNot c) n ps h = not_at limit n ps c h.0 (cond_of_bare limit (n + 1) (later (later ps)) c (bare_at limit c (n + 1) (later (later ps)) h.1))
  bare_at limit (query.QueryAll query.no_query_cond) n ps h = absurd h.0
  bare_at limit (query.QueryAll (query.more_query_conds c cs)) n ps h =
      all_at limit n ps c cs h.0 (and_member limit n ps c (bare_at limit c) h.1.0) (ands_at limit cs n (behind (member_pieces And c) ps) h.1.1)
  bare_at limit (query.QueryAny query.no_query_cond) n ps h = absurd h.0
  bare_at limit (query.QueryAny (query.more_query_conds c cs)) n ps h =
      any_at limit n ps c cs h.0 (or_member limit n ps c (bare_at limit c) h.1.0) (ors_at limit cs n (behind (member_pieces Or c) ps) h.1.1)

  ands_at : (limit : ℕ) (cs : QueryCondTrees) (n : ℕ) (ps : List ℕ) → MembersShape limit n And cs → AndsAt limit n ps cs
  ands_at limit query.no_query_cond n ps h = record { derivation = g.no_and; fits = tt; tree_is = refl; spelled = refl }
  ands_at limit (query.more_query_conds c cs) n ps h =
      and_more_at limit n ps c cs (and_member limit n (later ps) c (bare_at limit c) h.0) (ands_at limit cs n (behind (member_pieces And c) (later ps)) h.1)

  ors_at : (limit : ℕ) (cs : QueryCondTrees) (n : ℕ) (ps : List ℕ) → MembersShape limit n Or cs → OrsAt limit n ps cs
  ors_at limit query.no_query_cond n ps h = record { derivation = g.no_or; fits = tt; tree_is = refl; spelled = refl }
  ors_at limit (query.more_query_conds c cs) n ps h =
      or_more_at limit n ps c cs (or_member limit n (later ps) c (bare_at limit c) h.0) (ors_at limit cs n (behind (member_pieces Or c) (later ps)) h.1)

pub cond_at : (limit : ℕ) (c : QueryCondTree) (n : ℕ) (ps : List ℕ) → CondShape limit n c → CondAt limit n ps c
cond_at limit c n ps h = cond_of_bare limit n ps c (bare_at limit c n ps h)
