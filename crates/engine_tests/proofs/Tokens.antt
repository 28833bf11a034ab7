-- The tokens that a reader gave may come one by one, within limits.
use Rattle.std.proofs.Common.{◌≡◌, ℕ, ◌+◌, ◌≤◌, ◌^◌, Bool, true, List, ◌++◌, length, map, take, drop, ap, sym, ◌∙◌, arith, append_assoc, take-append-drop}
use Rattle.std.proofs.lemmas.List.{map-append}
use Rattle.gcx_base.specs.Limits.{full_limits}
use Rattle.gcx_model.specs.Growth.{may_all}
use Rattle.gcx_model.specs.Tree.{TreeToken as Said, opening}
use Rattle.doc_laws.proofs.Growing.{seen_comes}
use Rattle.doc_laws.proofs.TreeBounds.{seen_within}
use Rattle.doc_reader.specs.Standing.{Token, ReaderView, Stands, said_of}
use Rattle.gcx_model.specs.Seen.{AreWithin}
use Rattle.engine.proofs.Seeing.{seeing}
use Rattle.run_part.specs.Fronts.{may_parts}

pub given_comes : (r : ReaderView) (b : List ℕ) (ended : Bool) (given : List Token) → Stands r full_limits b ended given → may_all (map said_of given) opening ≡ true
given_comes r b ended given s =
    let x = seeing r full_limits b ended given s in
    (may_parts (map said_of given) x.rest opening (seen_comes full_limits b ended (map said_of given ++ x.rest) x.seen)).0

pub given_within : (r : ReaderView) (b : List ℕ) (ended : Bool) (given : List Token) → Stands r full_limits b ended given → AreWithin (map said_of given)
given_within r b ended given s = λ before after e.
    let x = seeing r full_limits b ended given s in
    let w = seen_within full_limits b ended (map said_of given ++ x.rest) before (after ++ x.rest) x.seen (ap (λ (l : List Said). l ++ x.rest) e ∙ append_assoc before after x.rest) in
    let a = w.at_most in
    (omega arith, λ p at. let h = w.open_elements p at in omega arith)

-- the first of tokens that may come one by one may too
pub first_come : (n : ℕ) (ts us : List Token) → us ≡ take n ts → may_all (map said_of ts) opening ≡ true → may_all (map said_of us) opening ≡ true
first_come n ts us first h =
    let e : map said_of us ++ map said_of (drop n ts) ≡ map said_of ts = sym (map-append said_of us (drop n ts)) ∙ ap (λ (l : List Token). map said_of (l ++ drop n ts)) first ∙ ap (map said_of) (take-append-drop n ts) in
    (may_parts (map said_of us) (map said_of (drop n ts)) opening (ap (λ (l : List Said). may_all l opening) e ∙ h)).0
