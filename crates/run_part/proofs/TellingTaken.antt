-- What a trace tells of a token with every action behind it.
use Rattle.std.proofs.Common.{◌≡◌, ℕ, List, [], ◌∷◌, ◌++◌, length, drop, sym, ◌∙◌, ap, subst, arith, append_assoc}
use Rattle.std.proofs.lemmas.List.{append-nil}
use Rattle.std.proofs.Math.Seq.{drop-append_seam}
use Rattle.gcx_model.specs.Tree.{Tree, TreeToken as Said, opening, grow}
use Rattle.gcx_model.specs.Core.{PlanTree}
use Rattle.gcx_model.specs.Run.{Action}
use Rattle.gcx_model.specs.Held.{held}
use Rattle.gcx_model.specs.Growth.{Leads}
use Rattle.gcx_model.specs.Points.{actions, so_far}
use Rattle.gcx_model.specs.Demand.{Line, left, act_lines, feed_line, demand, text_of_lines}
use Rattle.move_laws.proofs.Keeping.{so_far_stays}
use Rattle.run_part.specs.Actors.{all_of}
use Rattle.run_part.specs.Telling.{GrewPart, fed_lines, lines_to, token_text}
use Rattle.run_part.proofs.Telling.{lines_behind, lines_first, lines_on}
use Rattle.run_part.proofs.Writing.{all_is}

drop_all : (A : List Action) → drop (length A) A ≡ []
drop_all A = ap (drop (length A)) (sym (append-nil A)) ∙ drop-append_seam A []

module _ (plan : PlanTree) where
  -- the lines of the actions that a token makes possible, which made Q of P
  abbrev pub behind : (P Q : Tree) → List Line
  behind P Q = act_lines plan Q (actions plan P) (drop (length (actions plan P)) (actions plan Q))

  behind_same : (P Q : Tree) → actions plan Q ≡ actions plan P → behind P Q ≡ []
  behind_same P Q e = ap (λ (z : List Action). act_lines plan Q (actions plan P) z) (ap (drop (length (actions plan P))) e ∙ drop_all (actions plan P))

  -- they are those of all actions left over Q
  pub behind_is : (P Q : Tree) → Leads opening P → Leads P Q → lines_to plan Q (all_of plan P) (all_of plan Q) ≡ behind P Q
  behind_is P Q l m =
      let k = all_of plan P in
      let s : so_far plan Q k ≡ actions plan P = so_far_stays plan P Q k l m (omega arith) ∙ all_is plan P in
      ap (λ (z : List Action). act_lines plan Q z (drop k (so_far plan Q (all_of plan Q)))) s
      ∙ ap (λ (z : List Action). act_lines plan Q (actions plan P) (drop k z)) (all_is plan Q)

  -- of one token
  pub one_demand : (P : Tree) (t : Said) → demand plan (t ∷ []) P ≡ fed_lines plan t P (actions plan P) ++ behind P (grow t P)
  one_demand P t =
      let Q = grow t P in
      let A = actions plan P in
      let F = feed_line plan t P.at P Q in
      let L = left (held plan P A ++ drop (length P.nodes) Q.nodes) (held plan Q A) in
      let X = behind P Q in
      append-nil (F ++ (L ++ X)) ∙ sym (append_assoc F L X)

  module _ (P : Tree) (t : Said) (u v : List ℕ) where
    abbrev Q : Tree
    Q = grow t P

    abbrev A : List Action
    A = actions plan P

    fed_whole : v ≡ u ++ token_text plan t P (all_of plan P) → v ≡ u ++ text_of_lines (fed_lines plan t P A)
    fed_whole e = e ∙ ap (λ (z : List Action). u ++ text_of_lines (fed_lines plan t P z)) (all_is plan P)

    -- no action is possible behind it that wasn't
    pub told_quiet : v ≡ u ++ token_text plan t P (all_of plan P) → actions plan Q ≡ A → v ≡ u ++ text_of_lines (demand plan (t ∷ []) P)
    told_quiet e q =
        let lines : fed_lines plan t P A ≡ demand plan (t ∷ []) P
        = sym (append-nil (fed_lines plan t P A)) ∙ (ap (λ (z : List Line). fed_lines plan t P A ++ z) (sym (behind_same P Q q)) ∙ sym (one_demand P t)) in
        fed_whole e ∙ ap (λ (z : List Line). u ++ text_of_lines z) lines

    -- every action was taken
    pub told_acted : (w : List ℕ) → Leads opening P → Leads P Q → v ≡ u ++ token_text plan t P (all_of plan P) → w ≡ v ++ text_of_lines (lines_to plan Q (all_of plan P) (all_of plan Q)) → w ≡ u ++ text_of_lines (demand plan (t ∷ []) P)
    told_acted w l m e f =
        let acts : w ≡ v ++ text_of_lines (behind P Q) = f ∙ ap (λ (z : List Line). v ++ text_of_lines z) (behind_is P Q l m) in
        lines_on u v w (fed_lines plan t P A) (behind P Q) (fed_whole e) acts ∙ ap (λ (z : List Line). u ++ text_of_lines z) (sym (one_demand P t))

    -- memory ran out among them
    pub told_broke : (w : List ℕ) → Leads opening P → Leads P Q → v ≡ u ++ token_text plan t P (all_of plan P) → GrewPart v w (text_of_lines (lines_to plan Q (all_of plan P) (all_of plan Q))) → GrewPart u w (text_of_lines (demand plan (t ∷ []) P))
    told_broke w l m e h =
        subst (λ (z : List Line). GrewPart u w (text_of_lines z)) (sym (one_demand P t))
        (lines_behind u v w (fed_lines plan t P A) (behind P Q) (fed_whole e) (subst (λ (z : List Line). GrewPart v w (text_of_lines z)) (behind_is P Q l m) h))

    -- or among the lines of the token
    pub told_lost : GrewPart u v (token_text plan t P (all_of plan P)) → GrewPart u v (text_of_lines (demand plan (t ∷ []) P))
    told_lost h =
        subst (λ (z : List Line). GrewPart u v (text_of_lines z)) (sym (one_demand P t))
        (lines_first u v (fed_lines plan t P A) (behind P Q) (subst (λ (z : List Action). GrewPart u v (text_of_lines (fed_lines plan t P z))) (all_is plan P) h))
