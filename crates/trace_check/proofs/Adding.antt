-- Actions kept behind others.
use Rattle.std.proofs.Common.{◌≡◌, ℕ, List, [], ◌∷◌, ◌++◌, length, map, refl, sym, ◌∙◌, ap, append-nil, append_assoc}
use Rattle.std.proofs.lemmas.List.{map-append}
use Rattle.gcx_model.specs.Run.{Wrote}
use Rattle.time_laws.specs.Times.{TimedCourse, none_till, one_act, then_on}
use Rattle.trace_check.specs.Acting.{Adds, ShownAct, Sized, WritesAt, seen, shown}
use Rattle.trace_check.specs.declared.acts.TimedAct.{TimedAct}

-- none yet
pub adds_none : (old : List TimedAct) (t : ℕ) → Adds old old (none_till t) t
adds_none old t = record { acts = sym (append-nil (map shown old)); till_is = refl }

-- one part behind another
pub adds_then : (old mid new : List TimedAct) (a : TimedCourse) (f : ℕ → TimedCourse) (u v : ℕ) → Adds old mid a u → Adds mid new (f u) v → Adds old new (then_on a f) v
adds_then old mid new a f u v h k = record {
  acts = k.acts ∙ (ap (λ (l : List ShownAct). l ++ map seen (f u).acts) h.acts
      ∙ (append_assoc (map shown old) (map seen a.acts) (map seen (f u).acts)
      ∙ ap (λ (l : List ShownAct). map shown old ++ l) (ap (λ (t : ℕ). map seen a.acts ++ map seen (f t).acts) h.till_is ∙ sym (map-append seen a.acts (f a.till).acts))));
  till_is = k.till_is ∙ ap (λ (t : ℕ). (f t).till) h.till_is;
}

-- a course by another name
pub adds_same : (old new : List TimedAct) (a b : TimedCourse) (u : ℕ) → a ≡ b → Adds old new a u → Adds old new b u
adds_same old new a b u e h = record {
  acts = h.acts ∙ ap (λ (c : TimedCourse). map shown old ++ map seen c.acts) e;
  till_is = h.till_is ∙ ap (λ (c : TimedCourse). c.till) e;
}

-- a write
pub adds_write : (old new : List TimedAct) (b : List ℕ) (t n : ℕ) → n ≡ length b → WritesAt old new t n → Adds old new (one_act t (Wrote b)) t
adds_write old new b t n e h = record {
  acts = h ∙ ap (λ (k : ℕ). map shown old ++ record { at = t; what = Sized k } ∷ []) e;
  till_is = refl;
}
