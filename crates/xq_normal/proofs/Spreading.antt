-- An If moved into a body item by item, with the run so far, is the body cut in runs and loops.
use Rattle.std.proofs.Common.{◌≡◌, Bool, true, false, cond, List, [], ◌∷◌, refl, sym, ◌∙◌, ap}
use Rattle.gcx_model.specs.Core.{CondTree, ItemTree, Write, Copy, For, If, SignOff, BodyTree, Nil, Then}
use Rattle.gcx_model.specs.Normal.{join, one, has_loop, half, BranchPart, Run, Loop, begin, pieces, halved, turned_in, spread}
use Rattle.xq_normal.specs.Raw.{flush, spread_on}

-- a run in front of pieces
abbrev runs : BodyTree → List BranchPart → List BranchPart
runs Nil ps = ps
runs (Then i r) ps = begin i (runs r ps)

runs_alone : (i : ItemTree) (r : BodyTree) → runs (Then i r) [] ≡ Run (Then i r) ∷ []
runs_alone i Nil = refl
runs_alone i (Then j r) = ap (begin i) (runs_alone j r)

runs_loop : (i : ItemTree) (r : BodyTree) (l : ItemTree) (ps : List BranchPart) → runs (Then i r) (Loop l ∷ ps) ≡ Run (Then i r) ∷ (Loop l ∷ ps)
runs_loop i Nil l ps = refl
runs_loop i (Then j r) l ps = ap (begin i) (runs_loop j r l ps)

runs_more : (run : BodyTree) (i : ItemTree) (ps : List BranchPart) → runs (join run (one i)) ps ≡ runs run (begin i ps)
runs_more Nil i ps = refl
runs_more (Then j r) i ps = ap (begin j) (runs_more r i ps)

flush_end : (c : CondTree) (first : Bool) (run : BodyTree) → flush c first run Nil ≡ halved c first (runs run [])
flush_end c first Nil = refl
flush_end c first (Then i r) = ap (halved c first) (sym (runs_alone i r))

flush_loop : (c : CondTree) (first : Bool) (run : BodyTree) (l : ItemTree) (ps : List BranchPart) → flush c first run (Then l (halved c first ps)) ≡ halved c first (runs run (Loop l ∷ ps))
flush_loop c first Nil l ps = refl
flush_loop c first (Then i r) l ps = ap (halved c first) (sym (runs_loop i r l ps))

spread_runs : (c : CondTree) (first : Bool) (run d : BodyTree) → spread_on c first run d ≡ halved c first (runs run (pieces (turned_in c first d)))
spread_runs c first run Nil = flush_end c first run
spread_runs c first run (Then (Write s) d) = spread_runs c first (join run (one (Write s))) d ∙ ap (halved c first) (runs_more run (Write s) (pieces (turned_in c first d)))
spread_runs c first run (Then (Copy x) d) = spread_runs c first (join run (one (Copy x))) d ∙ ap (halved c first) (runs_more run (Copy x) (pieces (turned_in c first d)))
spread_runs c first run (Then (If k a b) d) = spread_runs c first (join run (one (If k a b))) d ∙ ap (halved c first) (runs_more run (If k a b) (pieces (turned_in c first d)))
spread_runs c first run (Then (SignOff o) d) = spread_runs c first (join run (one (SignOff o))) d ∙ ap (halved c first) (runs_more run (SignOff o) (pieces (turned_in c first d)))
spread_runs c first run (Then (For x y s e) d) =
    ap (λ u. flush c first run (Then (For x y s (cond (has_loop e) u (one (half c first e)))) (spread_on c first Nil d))) (spread_runs c first Nil e)
    ∙ (ap (λ u. flush c first run (Then (For x y s (cond (has_loop e) (spread c first e) (one (half c first e)))) u)) (spread_runs c first Nil d)
    ∙ flush_loop c first run (For x y s (cond (has_loop e) (spread c first e) (one (half c first e)))) (pieces (turned_in c first d)))

pub spread_is : (c : CondTree) (first : Bool) (d : BodyTree) → spread_on c first Nil d ≡ spread c first d
spread_is c first d = spread_runs c first Nil d
