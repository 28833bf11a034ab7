-- Two texts, one behind the other.
use Rattle.std.proofs.Common.{◌≡◌, ℕ, List, [], ◌∷◌, ◌++◌, map, refl, ap, sym, subst, ◌∙◌, append_assoc}
use Rattle.std.proofs.lemmas.List.{map-append}
use Rattle.std.proofs.lemmas.List.Elements.{All-append}
use Rattle.gcx_io.proofs.Grown.{grows_on}
use Rattle.gcx_io.specs.Causes.{Rose}
use Rattle.gcx_io.specs.Views.{Call, Took, Denied, SinkView}
use Rattle.gcx_io.specs.Writing.{IsSomeBytes, joined, Takes, Owes}

pub joined_both : (ps qs : List (List ℕ)) → joined (ps ++ qs) ≡ joined ps ++ joined qs
joined_both [] qs = refl
joined_both (p ∷ ps) qs = ap (λ (l : List ℕ). p ++ l) (joined_both ps qs) ∙ sym (append_assoc p (joined ps) (joined qs))

pub takes_then : (a b c : SinkView) (t u : List ℕ) → Takes a b t → Takes b c u → Takes a c (t ++ u)
takes_then a b c t u x y = record {
  pieces = x.pieces ++ y.pieces;
  some = All-append IsSomeBytes x.pieces y.pieces x.some y.some;
  calls = y.calls ∙ ap (λ (l : List Call). l ++ map Took y.pieces) x.calls ∙ append_assoc a.calls (map Took x.pieces) (map Took y.pieces)
      ∙ ap (λ (l : List Call). a.calls ++ l) (sym (map-append Took x.pieces y.pieces));
  whole = joined_both x.pieces y.pieces ∙ ap (λ (l : List ℕ). l ++ joined y.pieces) x.whole ∙ ap (λ (l : List ℕ). t ++ l) y.whole;
  told = grows_on a.taken b.taken c.taken t u x.told y.told;
  faults = y.faults ∙ x.faults;
}

pub owes_then : (a b c : SinkView) (t u : List ℕ) → Takes a b t → Owes b c [] u → Owes a c t (t ++ u)
owes_then a b c t u x y = record {
  pieces = x.pieces ++ y.pieces;
  more = y.more;
  next = y.next;
  later = y.later;
  some = All-append IsSomeBytes x.pieces y.pieces x.some y.some;
  calls = y.calls ∙ ap (λ (l : List Call). l ++ map Took y.pieces ++ Denied y.next ∷ []) x.calls
      ∙ ap (λ (l : List Call). l ++ Denied y.next ∷ []) (append_assoc a.calls (map Took x.pieces) (map Took y.pieces)
      ∙ ap (λ (l : List Call). a.calls ++ l) (sym (map-append Took x.pieces y.pieces)));
  taken = joined_both x.pieces y.pieces ∙ ap (λ (l : List ℕ). l ++ joined y.pieces) x.whole ∙ ap (λ (l : List ℕ). t ++ l) y.taken;
  split = ap (λ (l : List ℕ). t ++ l) y.split ∙ sym (append_assoc t (y.more ++ y.next) y.later)
      ∙ ap (λ (l : List ℕ). l ++ y.later) (sym (append_assoc t y.more y.next));
  offered = y.offered;
  told = grows_on a.taken b.taken c.taken t y.more x.told y.told;
  faults = subst (λ (k : ℕ). Rose k c.faults) x.faults y.faults;
}

-- more of the text is still to come
pub owes_more : (a b : SinkView) (sure t u : List ℕ) → Owes a b sure t → Owes a b sure (t ++ u)
owes_more a b sure t u o = record {
  pieces = o.pieces;
  more = o.more;
  next = o.next;
  later = o.later ++ u;
  some = o.some;
  calls = o.calls;
  taken = o.taken;
  split = ap (λ (l : List ℕ). l ++ u) o.split ∙ append_assoc (sure ++ o.more ++ o.next) o.later u;
  offered = o.offered;
  told = o.told;
  faults = o.faults;
}

-- less of it is sure
pub owes_less : (a b : SinkView) (sure t : List ℕ) → Owes a b sure t → Owes a b [] t
owes_less a b sure t o = record {
  pieces = o.pieces;
  more = sure ++ o.more;
  next = o.next;
  later = o.later;
  some = o.some;
  calls = o.calls;
  taken = o.taken;
  split = o.split;
  offered = o.offered;
  told = o.told;
  faults = o.faults;
}
