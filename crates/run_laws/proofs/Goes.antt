-- What is settled, the trace and the peak go on while tokens come.
use Rattle.std.proofs.Common.{◌≡◌, ℕ, ◌≤◌, true, List, [], ◌∷◌, ◌++◌, refl, sym, ◌∙◌, ap, subst, arith, append_assoc}
use Rattle.std.specs.List.{flat_map}
use Rattle.std.proofs.lemmas.Grind.{flat_map-append}
use Rattle.gcx_model.specs.Tree.{Tree, Root, TreeToken, opening, grow, grow_all}
use Rattle.gcx_model.specs.Core.{PlanTree}
use Rattle.gcx_model.specs.Run.{run, env0, bytes_of}
use Rattle.gcx_model.specs.Placed.{plan_of}
use Rattle.gcx_model.specs.Growth.{Leads, may_all, tokens_of}
use Rattle.gcx_model.specs.Points.{actions}
use Rattle.gcx_model.specs.Normal.{normal}
use Rattle.gcx_model.specs.Demand.{Line, line_text, opened_line, act_lines, feed_lines, demand, trace_lines, text_of_lines, peak_from, peak_of, peak}
use Rattle.run_laws.specs.Going.{KnownGoesOn, TraceGoesOn, PeakGoesOn}
use Rattle.tree_laws.proofs.Fed.{tree, root_from}
use Rattle.tree_laws.proofs.Growing.{fed_all, grow_all-append, may_all-append, tokens_found}
use Rattle.placed_laws.proofs.RunForms.{prefix_law}

pub known_goes_on : KnownGoesOn
known_goes_on q P Q l m =
    let h = (prefix_law P Q l m (normal q) env0 (λ x. root_from P l)).0 in
    (flat_map bytes_of h.0, ap (flat_map bytes_of) h.1 ∙ flat_map-append bytes_of (run (normal q) env0 P).acts h.0)

-- the tokens of P and those from P to Q
abbrev pub Fed_on : Tree → Tree → Type 0
Fed_on P Q = (ts us : List TreeToken) × (may_all (ts ++ us) opening ≡ true) × (P ≡ tree ts) × (tokens_of P ≡ ts) × (tokens_of Q ≡ ts ++ us)

pub fed_on : (P Q : Tree) → Leads opening P → Leads P Q → Fed_on P Q
fed_on P Q l m =
    let a = fed_all opening P l in
    let b = fed_all P Q m in
    let c : may_all (a.0 ++ b.0) opening ≡ true = may_all-append a.0 b.0 opening a.1 (subst (λ (z : Tree). may_all b.0 z ≡ true) a.2 b.1) in
    let e : Q ≡ tree (a.0 ++ b.0) = b.2 ∙ (ap (grow_all b.0) a.2 ∙ sym (grow_all-append a.0 b.0 opening)) in
    (a.0, b.0, c, a.2, ap tokens_of a.2 ∙ tokens_found a.0 a.1, ap tokens_of e ∙ tokens_found (a.0 ++ b.0) c)

module _ (plan : PlanTree) where
  pub demand-append : (ts us : List TreeToken) (P : Tree) → demand plan (ts ++ us) P ≡ demand plan ts P ++ demand plan us (grow_all ts P)
  demand-append [] us P = refl
  demand-append (t ∷ ts) us P =
      ap (λ z. feed_lines plan t P (grow t P) (actions plan P) ++ z) (demand-append ts us (grow t P))
      ∙ sym (append_assoc (feed_lines plan t P (grow t P) (actions plan P)) (demand plan ts (grow t P)) (demand plan us (grow_all ts (grow t P))))

  pub trace_lines-append : (ts us : List TreeToken) → trace_lines plan (ts ++ us) ≡ trace_lines plan ts ++ demand plan us (tree ts)
  trace_lines-append ts us =
      let a : List Line = act_lines plan opening [] (actions plan opening) in
      ap (λ z. opened_line plan opening Root ∷ (a ++ z)) (demand-append ts us opening) ∙ ap (λ z. opened_line plan opening Root ∷ z) (sym (append_assoc a (demand plan ts opening) (demand plan us (tree ts))))

  peak_from-append : (ts us : List TreeToken) (P : Tree) → peak_from plan ts P ≤ peak_from plan (ts ++ us) P
  peak_from-append [] us P = omega arith
  peak_from-append (t ∷ ts) us P = let h = peak_from-append ts us (grow t P) in omega arith

pub trace_goes_on : TraceGoesOn
trace_goes_on q P Q l m =
    let plan : PlanTree = plan_of (normal q) in
    let f = fed_on P Q l m in
    let ts : List TreeToken = f.0 in
    let us : List TreeToken = f.1 in
    let text : Line → List ℕ = λ l. line_text l ++ 10 ∷ [] in (
      text_of_lines (demand plan us (tree ts)),
      ap (λ z. text_of_lines (trace_lines plan z)) f.5
          ∙ (ap text_of_lines (trace_lines-append plan ts us)
          ∙ (flat_map-append text (trace_lines plan ts) (demand plan us (tree ts))
          ∙ ap (λ z. text_of_lines (trace_lines plan z) ++ text_of_lines (demand plan us (tree ts))) (sym f.4))),
    )

pub peak_goes_on : PeakGoesOn
peak_goes_on q P Q l m =
    let plan : PlanTree = plan_of (normal q) in
    let f = fed_on P Q l m in
    let h = peak_from-append plan f.0 f.1 opening in
    let less : peak_of plan f.0 ≤ peak_of plan (f.0 ++ f.1) = omega arith in
    subst (λ (z : List TreeToken). peak_of plan z ≤ peak q Q) (sym f.4) (subst (λ (z : List TreeToken). peak_of plan f.0 ≤ peak_of plan z) (sym f.5) less)
