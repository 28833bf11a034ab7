-- Derivations of the pieces of paths and operands.
use Rattle.std.proofs.Common.{ℕ, ◌≡◌, List, [], ◌∷◌, flat_map, Option, Some, None, refl, ap}
use Rattle.gcx_base.specs.declared.rel.Rel.{Rel}
use Rattle.gcx_base.specs.declared.rel.Rel.TheVariants as rels
use Rattle.gcx_base.specs.declared.steps.Axis.{Axis}
use Rattle.gcx_base.specs.declared.steps.Axis.TheVariants as axes
use Rattle.gcx_base.specs.declared.steps.Step.{Step}
use Rattle.gcx_base.specs.declared.steps.Test.{Test}
use Rattle.gcx_base.specs.declared.steps.Test.TheVariants as tests
use Rattle.gcx_model.specs.declared.query.PathExpr.{PathExpr}
use Rattle.gcx_model.specs.declared.query.QOperand.{QOperand}
use Rattle.gcx_model.specs.declared.query.QOperand.TheVariants as operand
use Rattle.xq_lex.specs.declared.sign.Sign.TheVariants as signs
use Rattle.xq_lex.specs.declared.token.TokKind.TheVariants as kinds
use Rattle.xq_parse.specs.Tokens.{Token, TVar, TSign, token_at}
use Rattle.xq_parse.specs.Grammar as g
use Rattle.xq_parse.specs.Grammar.{a_step, a_path, rel_sign, test_tokens, test_tree, step_tokens, step_tree, steps_tokens, steps_tree, path_tokens, path_tree, operand_tokens, operand_tree}
use Rattle.xq_print.proofs.Pieces.{test_pieces, step_pieces, path_pieces, operand_pieces}
use Rattle.xq_print.proofs.Placing.{place, later, behind, placed, in_place}
use Rattle.xq_print.proofs.Shape.{IsBegun, IsPath, IsSide}

-- A derivation of this tree spells the tokens.
pub record Derived {D T : Type 0} (tokens : D → List Token) (tree : D → T) (Fits : D → Type 0) (t : T) (ts : List Token) : Type 0 where
  pub derivation : D
  pub fits : Fits derivation
  pub tree_is : tree derivation ≡ t
  pub spelled : tokens derivation ≡ ts

-- nothing nests in it
abbrev pub Flat : {D : Type 0} → D → Type 0
Flat d = Unit {0}

-- ---- Paths

test_of : Test → g.TestSyntax
test_of (tests.Named x) = g.name_test x
test_of tests.AnyElement = g.star_test
test_of tests.AnyText = g.text_test
test_of tests.AnyNode = g.node_test

test_spelled : (t : Test) (ps : List ℕ) → test_tokens (test_of t) ≡ placed ps (test_pieces t)
unfolding test_of
test_spelled (tests.Named x) ps = refl
test_spelled tests.AnyElement ps = refl
test_spelled tests.AnyText ps = refl
test_spelled tests.AnyNode ps = refl

test_is : (t : Test) → test_tree (test_of t) ≡ t
unfolding test_of
test_is (tests.Named x) = refl
test_is tests.AnyElement = refl
test_is tests.AnyText = refl
test_is tests.AnyNode = refl

abbrev pub StepAt : List ℕ → Step → Type 0
StepAt ps s = Derived step_tokens step_tree Flat s (placed ps (step_pieces s))

pub step_at : (s : Step) (ps : List ℕ) → StepAt ps s
step_at s ps = by_axis s.axis s.test
  where
    by_axis : (a : Axis) (t : Test) → StepAt ps (a_step a t)
    by_axis axes.Child t = record { derivation = g.plain (place ps) (test_of t); fits = tt; tree_is = ap (a_step axes.Child) (test_is t); spelled = ap (λ (ts : List Token). token_at (place ps) (kinds.Sign signs.Slash) ∷ ts) (test_spelled t (later ps)) }
    by_axis axes.Descendant t = record { derivation = g.double (place ps) (test_of t); fits = tt; tree_is = ap (a_step axes.Descendant) (test_is t); spelled = ap (λ (ts : List Token). token_at (place ps) (kinds.Sign signs.SlashSlash) ∷ ts) (test_spelled t (later ps)) }

abbrev pub StepsAt : List ℕ → List Step → Type 0
StepsAt ps ss = Derived steps_tokens steps_tree Flat ss (placed ps (flat_map step_pieces ss))

pub steps_at : (ss : List Step) (ps : List ℕ) → StepsAt ps ss
steps_at [] ps = record { derivation = g.no_step; fits = tt; tree_is = refl; spelled = refl }
steps_at (s ∷ ss) ps =
    let one : StepAt ps s = step_at s ps in
    let more : StepsAt (behind (step_pieces s) ps) ss = steps_at ss (behind (step_pieces s) ps) in
    record {
      derivation = g.more_steps one.derivation more.derivation;
      fits = tt;
      tree_is = (λ i. one.tree_is i ∷ more.tree_is i);
      spelled = in_place ps (step_pieces s) (flat_map step_pieces ss) one.spelled more.spelled;
    }

abbrev pub PathAt : List ℕ → PathExpr → Type 0
PathAt ps p = Derived path_tokens path_tree Flat p (placed ps (path_pieces p))

pub path_at : (p : PathExpr) → IsPath p → (ps : List ℕ) → PathAt ps p
path_at p h ps = by_start p.start p.steps h
  where
    by_start : (v : Option (List ℕ)) (ss : List Step) → IsBegun v ss → PathAt ps (a_path v ss)
    by_start (Some x) ss h =
        let more : StepsAt (later ps) ss = steps_at ss (later ps) in
        record { derivation = g.from_var (place ps) x more.derivation; fits = tt; tree_is = ap (a_path (Some x)) more.tree_is; spelled = ap (λ (ts : List Token). TVar (place ps) x ∷ ts) more.spelled }
    by_start None [] h = absurd h
    by_start None (s ∷ ss) h =
        let one : StepAt ps s = step_at s ps in
        let more : StepsAt (behind (step_pieces s) ps) ss = steps_at ss (behind (step_pieces s) ps) in
        record {
          derivation = g.from_root one.derivation more.derivation;
          fits = tt;
          tree_is = (λ i. a_path None (one.tree_is i ∷ more.tree_is i));
          spelled = in_place ps (step_pieces s) (flat_map step_pieces ss) one.spelled more.spelled;
        }

abbrev pub OperandAt : List ℕ → QOperand → Type 0
OperandAt ps o = Derived operand_tokens operand_tree Flat o (placed ps (operand_pieces o))

pub operand_at : (o : QOperand) → IsSide o → (ps : List ℕ) → OperandAt ps o
operand_at (operand.Path p) h ps =
    let path : PathAt ps p = path_at p h ps in
    record { derivation = g.path_operand path.derivation; fits = tt; tree_is = ap operand.Path path.tree_is; spelled = path.spelled }
operand_at (operand.Str x) h ps = record { derivation = g.literal_operand (g.text x); fits = tt; tree_is = refl; spelled = refl }
operand_at (operand.Num u) h ps = record { derivation = g.literal_operand (g.number u); fits = tt; tree_is = refl; spelled = refl }

pub rel_spelled : (r : Rel) (at : ℕ) → TSign (rel_sign r) ≡ token_at at (kinds.Sign (rel_sign r))
rel_spelled rels.Eq at = refl
rel_spelled rels.Ne at = refl
rel_spelled rels.Lt at = refl
rel_spelled rels.Le at = refl
rel_spelled rels.Gt at = refl
rel_spelled rels.Ge at = refl
