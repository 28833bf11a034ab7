-- The machine's marks are the first places of a derivation.
use Rattle.std.proofs.Common.{ℕ, ◌≡◌, Bool, true, false, cond, List, [], ◌∷◌, ◌++◌, Option, Some, None, refl, sym, ap, ◌∙◌}
use Rattle.std.specs.Prelude.{bytes_eq}
use Rattle.gcx_model.specs.Paths.{any, head}
use Rattle.xq_parse.specs.declared.marks.Marks.{Marks}
use Rattle.xq_parse.specs.Grammar as g
use Rattle.xq_parse.specs.Grammar.{path_tree, source_tree}
use Rattle.xq_parse.specs.Places.{Scope, path_unknown, source_unknown, operand_unknown, cond_unknown, ors_unknown, all_unknown, ands_unknown, atom_unknown, clause_unknown, clause_scope, clauses_unknown, loop_scope, where_unknown, expr_unknown, inner_unknown, rest_unknown, tag_unknown, content_unknown, unknown_of, path_late, source_late, clause_late, clauses_late, expr_late, inner_late, rest_late, tag_late, content_late, late_of}
use Rattle.xq_parse.specs.Machine.{or_else, unbound_at, no_marks}
use Rattle.xq_parse.proofs.Folds.{path_place, source_place, path_marks, ordered_marks, operand_marks, cond_marks, ors_marks, all_marks, ands_marks, atom_marks, clause_marks, clauses_marks, where_marks, expr_marks, inner_marks, rest_marks, tag_marks, content_marks}

abbrev a_mark : Option ℕ → Option ℕ → Marks
a_mark u l = record { unknown = u; late = l }

-- the marks behind these places
abbrev noted : Marks → List ℕ → List ℕ → Marks
noted m us ls = a_mark (or_else m.unknown (head us)) (or_else m.late (head ls))

or_none : (a : Option ℕ) → or_else a None ≡ a
or_none None = refl
or_none (Some a) = refl

or_join : (a : Option ℕ) (us vs : List ℕ) → or_else (or_else a (head us)) (head vs) ≡ or_else a (head (us ++ vs))
or_join (Some a) us vs = refl
or_join None [] vs = refl
or_join None (u ∷ us) vs = refl

none : (m : Marks) → noted m [] [] ≡ m
none m = ap (λ (u : Option ℕ). a_mark u (or_else m.late None)) (or_none m.unknown) ∙ ap (λ (l : Option ℕ). a_mark m.unknown l) (or_none m.late)

join : (m : Marks) (us ls vs ks : List ℕ) → noted (noted m us ls) vs ks ≡ noted m (us ++ vs) (ls ++ ks)
join m us ls vs ks = ap (λ (u : Option ℕ). a_mark u (or_else (or_else m.late (head ls)) (head ks))) (or_join m.unknown us vs) ∙ ap (λ (l : Option ℕ). a_mark (or_else m.unknown (head (us ++ vs))) l) (or_join m.late ls ks)

-- one part, and what is behind it
two : (m after last : Marks) (us ls vs ks : List ℕ) → after ≡ noted m us ls → last ≡ noted after vs ks → last ≡ noted m (us ++ vs) (ls ++ ks)
two m after last us ls vs ks e f = f ∙ ap (λ (n : Marks). noted n vs ks) e ∙ join m us ls vs ks

unbound_path : (sc : Scope) (p : g.Path) → unbound_at sc (path_tree p).start (path_place p) ≡ head (path_unknown sc p)
unbound_path sc (g.from_var at x ss) = go (any (bytes_eq x) sc)
  where
    go : (b : Bool) → (let l : List ℕ = cond b [] (at ∷ []) in let o : Option ℕ = cond b None (Some at) in o ≡ head l)
    go true = refl
    go false = refl
unbound_path sc (g.from_root s ss) = refl

unbound_source : (sc : Scope) (p : g.Source) → unbound_at sc (source_tree p).start (source_place p) ≡ head (source_unknown sc p)
unbound_source sc (g.in_var at x s ss) = go (any (bytes_eq x) sc)
  where
    go : (b : Bool) → (let l : List ℕ = cond b [] (at ∷ []) in let o : Option ℕ = cond b None (Some at) in o ≡ head l)
    go true = refl
    go false = refl
unbound_source sc (g.in_root s ss) = refl

path_noted : (sc : Scope) (m : Marks) (p : g.Path) → path_marks sc m p ≡ noted m (path_unknown sc p) []
path_noted sc m p = ap (λ (u : Option ℕ). a_mark (or_else m.unknown u) m.late) (unbound_path sc p) ∙ ap (λ (l : Option ℕ). a_mark (or_else m.unknown (head (path_unknown sc p))) l) (sym (or_none m.late))

ordered_noted : (sc : Scope) (m : Marks) (p : g.Path) → ordered_marks sc m p ≡ noted m (path_unknown sc p) (path_late p)
ordered_noted sc m p = ap (λ (u : Option ℕ). a_mark (or_else m.unknown u) (or_else m.late (head (path_late p)))) (unbound_path sc p)

operand_noted : (sc : Scope) (m : Marks) (o : g.Operand) → operand_marks sc m o ≡ noted m (operand_unknown sc o) []
operand_noted sc m (g.path_operand p) = path_noted sc m p
operand_noted sc m (g.literal_operand l) = sym (none m)

mutual
  cond_noted : (sc : Scope) (m : Marks) (c : g.Cond) → cond_marks sc m c ≡ noted m (cond_unknown sc c) []
  cond_noted sc m (g.cond_of a os) = two m (all_marks sc m a) _ (all_unknown sc a) [] (ors_unknown sc os) [] (all_noted sc m a) (ors_noted sc (all_marks sc m a) os)

  ors_noted : (sc : Scope) (m : Marks) (os : g.Ors) → ors_marks sc m os ≡ noted m (ors_unknown sc os) []
  ors_noted sc m g.no_or = sym (none m)
  ors_noted sc m (g.or_more a os) = two m (all_marks sc m a) _ (all_unknown sc a) [] (ors_unknown sc os) [] (all_noted sc m a) (ors_noted sc (all_marks sc m a) os)

  all_noted : (sc : Scope) (m : Marks) (a : g.All) → all_marks sc m a ≡ noted m (all_unknown sc a) []
  all_noted sc m (g.all a bs) = two m (atom_marks sc m a) _ (atom_unknown sc a) [] (ands_unknown sc bs) [] (atom_noted sc m a) (ands_noted sc (atom_marks sc m a) bs)

  ands_noted : (sc : Scope) (m : Marks) (bs : g.Ands) → ands_marks sc m bs ≡ noted m (ands_unknown sc bs) []
  ands_noted sc m g.no_and = sym (none m)
  ands_noted sc m (g.and_more a bs) = two m (atom_marks sc m a) _ (atom_unknown sc a) [] (ands_unknown sc bs) [] (atom_noted sc m a) (ands_noted sc (atom_marks sc m a) bs)

  atom_noted : (sc : Scope) (m : Marks) (a : g.Atom) → atom_marks sc m a ≡ noted m (atom_unknown sc a) []
  atom_noted sc m (g.negated c) = cond_noted sc m c
  atom_noted sc m g.always = sym (none m)
  atom_noted sc m (g.existing p) = path_noted sc m p
  atom_noted sc m (g.grouped c) = cond_noted sc m c
  atom_noted sc m (g.compared p r o) = two m (path_marks sc m p) _ (path_unknown sc p) [] (operand_unknown sc o) [] (path_noted sc m p) (operand_noted sc (path_marks sc m p) o)
  atom_noted sc m (g.literal_first l r p) = path_noted sc m p

clause_noted : (sc : Scope) (m : Marks) (c : g.ClauseSyntax) → clause_marks sc m c ≡ noted m (clause_unknown sc c) (clause_late c)
clause_noted sc m (g.clause at x s) = ap (λ (u : Option ℕ). a_mark (or_else m.unknown u) (or_else m.late (head (source_late s)))) (unbound_source sc s)

clauses_noted : (sc : Scope) (m : Marks) (cs : g.Clauses) → clauses_marks sc m cs ≡ noted m (clauses_unknown sc cs) (clauses_late cs)
clauses_noted sc m g.no_clause = sym (none m)
clauses_noted sc m (g.clause_more c cs) = two m (clause_marks sc m c) _ (clause_unknown sc c) (clause_late c) (clauses_unknown (clause_scope sc c) cs) (clauses_late cs) (clause_noted sc m c) (clauses_noted (clause_scope sc c) (clause_marks sc m c) cs)

where_noted : (sc : Scope) (m : Marks) (w : g.Where) → where_marks sc m w ≡ noted m (where_unknown sc w) []
where_noted sc m g.no_where = sym (none m)
where_noted sc m (g.where_cond c) = cond_noted sc m c

mutual
  expr_noted : (sc : Scope) (m : Marks) (e : g.Expr) → expr_marks sc m e ≡ noted m (expr_unknown sc e) (expr_late e)
  expr_noted sc m (g.for_expr c cs w e) =
      let inside : Scope = loop_scope sc c cs in
      let n : Marks = clauses_marks sc m (g.clause_more c cs) in
      let v : Marks = where_marks inside n w in
      two m n _ (clauses_unknown sc (g.clause_more c cs)) (clauses_late (g.clause_more c cs)) (where_unknown inside w ++ expr_unknown inside e) (expr_late e) (clauses_noted sc m (g.clause_more c cs))
      (two n v _ (where_unknown inside w) [] (expr_unknown inside e) (expr_late e) (where_noted inside n w) (expr_noted inside v e))
  expr_noted sc m (g.if_expr c a b) =
      let n : Marks = cond_marks sc m c in
      let v : Marks = expr_marks sc n a in
      two m n _ (cond_unknown sc c) [] (expr_unknown sc a ++ expr_unknown sc b) (expr_late a ++ expr_late b) (cond_noted sc m c)
      (two n v _ (expr_unknown sc a) (expr_late a) (expr_unknown sc b) (expr_late b) (expr_noted sc n a) (expr_noted sc v b))
  expr_noted sc m (g.elem_expr x t) = tag_noted sc m t
  expr_noted sc m (g.paren_expr i) = inner_noted sc m i
  expr_noted sc m (g.path_expr p) = ordered_noted sc m p

  inner_noted : (sc : Scope) (m : Marks) (i : g.Inner) → inner_marks sc m i ≡ noted m (inner_unknown sc i) (inner_late i)
  inner_noted sc m g.closed = sym (none m)
  inner_noted sc m (g.listed e r) = two m (expr_marks sc m e) _ (expr_unknown sc e) (expr_late e) (rest_unknown sc r) (rest_late r) (expr_noted sc m e) (rest_noted sc (expr_marks sc m e) r)

  rest_noted : (sc : Scope) (m : Marks) (r : g.Rest) → rest_marks sc m r ≡ noted m (rest_unknown sc r) (rest_late r)
  rest_noted sc m g.no_rest = sym (none m)
  rest_noted sc m (g.rest_more e r) = two m (expr_marks sc m e) _ (expr_unknown sc e) (expr_late e) (rest_unknown sc r) (rest_late r) (expr_noted sc m e) (rest_noted sc (expr_marks sc m e) r)

  tag_noted : (sc : Scope) (m : Marks) (t : g.Tag) → tag_marks sc m t ≡ noted m (tag_unknown sc t) (tag_late t)
  tag_noted sc m g.short = sym (none m)
  tag_noted sc m (g.long c) = content_noted sc m c

  content_noted : (sc : Scope) (m : Marks) (c : g.Content) → content_marks sc m c ≡ noted m (content_unknown sc c) (content_late c)
  content_noted sc m g.ended = sym (none m)
  content_noted sc m (g.nested y t c) = two m (tag_marks sc m t) _ (tag_unknown sc t) (tag_late t) (content_unknown sc c) (content_late c) (tag_noted sc m t) (content_noted sc (tag_marks sc m t) c)
  content_noted sc m (g.braced e r c) =
      let n : Marks = expr_marks sc m e in
      let v : Marks = rest_marks sc n r in
      two m n _ (expr_unknown sc e) (expr_late e) (rest_unknown sc r ++ content_unknown sc c) (rest_late r ++ content_late c) (expr_noted sc m e)
      (two n v _ (rest_unknown sc r) (rest_late r) (content_unknown sc c) (content_late c) (rest_noted sc n r) (content_noted sc v c))

-- the marks of a whole query
pub marks_are : (d : g.Derivation) → rest_marks [] (expr_marks [] no_marks d.first) d.others ≡ a_mark (head (unknown_of d)) (head (late_of d))
marks_are d = two no_marks (expr_marks [] no_marks d.first) _ (expr_unknown [] d.first) (expr_late d.first) (rest_unknown [] d.others) (rest_late d.others) (expr_noted [] no_marks d.first) (rest_noted [] (expr_marks [] no_marks d.first) d.others)
