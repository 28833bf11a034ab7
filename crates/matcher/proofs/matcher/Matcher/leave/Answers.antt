use Rattle.std.proofs.Common.{◌≡◌, ◌-◌, ◌<◌, ℕ, suc, true, false, not, max, take, List, length, eqb, refl, sym, ◌∙◌, ap, subst, inl, inr, arith, Some}
use Rattle.std.specs.List.{filter}
use Rattle.std.proofs.lemmas.List.{length-take-le}
use Rattle.gcx_base.specs.declared.kind.Kind.{Kind}
use Rattle.gcx_model.specs.Tree.{Node, Under, End}
use Rattle.gcx_model.specs.Growth.{level}
use Rattle.gcx_model.specs.Past.{Past, past_grown}
use Rattle.path_states.specs.States.{StatesView, outer_states}
use Rattle.matcher.specs.Matcher.{MatcherAt}
use Rattle.matcher.specs.Parts.{NodeMarks}
use Rattle.matcher.specs.Stacks.{last_marks, outer_marks}
use Rattle.matcher.specs.View.{FrameView, GoTogether, MatcherView, frame_of, frames_of, innermost_frame, matcher_view}
use Rattle.matcher.specs.declared.signs.Sign.{Sign}
use Rattle.path_states.proofs.Looking.{some_at}
use Rattle.matcher.proofs.Framing.{frame_last, frames_length, frames_outer}
use Rattle.matcher.proofs.Leaving.{Dropped, idle_text, frame_text, idle_element, frame_element}
use Rattle.matcher.proofs.matcher.Matcher.leave.Goals as goal

-- ---- an idle node

pub returns-then-self-gt0-clause-text : goal.returns-then-self-gt0-clause-text
returns-then-self-gt0-clause-text c = λ past s.
    let m = matcher_view c.self.inside.states c.self.inside.frames c.self.inside.idle c.self.inside.text c.self.inside.signs.items in
    idle_text m past (subst (λ (z : MatcherView). MatcherAt z past true) (sym c.self.view_is) s) (c.self.inside.idle - 1) (let g = c.if-self-gt0.true in omega arith)

pub returns-then-self-gt0-clause-element : goal.returns-then-self-gt0-clause-element
returns-then-self-gt0-clause-element c = λ past p n k s at.
    let m = matcher_view c.self.inside.states c.self.inside.frames c.self.inside.idle c.self.inside.text c.self.inside.signs.items in
    idle_element m past p n k (subst (λ (z : MatcherView). MatcherAt z past false) (sym c.self.view_is) s) at (c.self.inside.idle - 1) (let g = c.if-self-gt0.true in omega arith)

-- ---- one with a frame

-- the innermost frame, and that there are more, where a node is left
inner : (v : StatesView) (ms : List NodeMarks) → GoTogether v ms → (f : FrameView) × (m : NodeMarks) × (innermost_frame (frames_of v ms) ≡ Some f) × (last_marks ms ≡ Some m) × (f.signed ≡ m.signed)
inner v ms go =
    let low : length v.states - 1 < length v.states = (let a = go.0 in let b = go.1 in omega arith) in
    let s = some_at v.states (length v.states - 1) low in
    let f = frame_last v ms go s.0 s.1 in
    (frame_of s.0 f.0, f.0, f.2, f.1, refl)

count : (v : StatesView) (ms : List NodeMarks) → GoTogether v ms → length (frames_of v ms) ≡ length ms
count v ms go = let a = go.0 in frames_length v.states ms (omega arith)

-- what the outer states and marks tell, of these signs
outer_stands : (v w : StatesView) (ms ns : List NodeMarks) (signs : List Sign) (past : Past) → w ≡ record v { states = outer_states v.states } → ns ≡ outer_marks ms
    → ((frames : List FrameView) → frames ≡ take (max 1 (length (frames_of v ms) - 1)) (frames_of v ms) → MatcherAt (record { tree = v.tree; names = v.names; frames = frames; idle = 0; text = false; signs = signs; most_bytes = v.most_bytes }) past false)
    → GoTogether v ms → MatcherAt (matcher_view w ns 0 false signs) past false
outer_stands v w ms ns signs past e f by go =
    let u : StatesView = record v { states = outer_states v.states } in
    subst (λ (z : StatesView). MatcherAt (matcher_view z ns 0 false signs) past false) (sym e)
    (by (frames_of u ns) (ap (λ (z : List NodeMarks). frames_of u z) f ∙ frames_outer v ms go))

-- those at the level of the frame that was taken are dropped
dropped_signs : (ms ns : List NodeMarks) (before now : List Sign) (len : ℕ) → 1 < length ms → ns ≡ outer_marks ms → len ≡ length ns → now ≡ filter (λ (s : Sign). not (eqb s.level len)) before → now ≡ filter (λ (s : Sign). not (eqb s.level (length ms - 1))) before
dropped_signs ms ns before now len more e f g =
    let a : length (take (max 1 (length ms - 1)) ms) ≡ max 1 (length ms - 1) = length-take-le (max 1 (length ms - 1)) ms (omega arith) in
    let b = ap (λ (z : List NodeMarks). length z) e in
    let l : len ≡ length ms - 1 = omega arith in
    g ∙ ap (λ (n : ℕ). filter (λ (s : Sign). not (eqb s.level n)) before) l

-- a text, and an element, lie below the document node
more_text : (m : MatcherView) (past : Past) → MatcherAt m past true → m.idle ≡ 0 → 1 < length m.frames
more_text m past S none =
    let q = S.innermost in
    let d : level S.here ≡ suc (level q.0) = ap level q.4 in
    let l = S.levels in
    omega arith

more_element : (m : MatcherView) (past : Past) (p : Node) (n : ℕ) (k : Kind) → MatcherAt m past false → past.tree.at ≡ Some (Under p n k) → m.idle ≡ 0 → 1 < length m.frames
more_element m past p n k S at none =
    let e : Some S.here ≡ Some (Under p n k) = sym S.innermost ∙ at in
    let f : S.here ≡ Under p n k = cc in
    let d : level S.here ≡ suc (level p) = ap level f in
    let l = S.levels in
    omega arith

pub returns-then-leave-clause-text : goal.returns-then-leave-clause-text
returns-then-leave-clause-text c = λ past s.
    let v = c.self.inside.states in
    let ms = c.self.inside.frames in
    let go = c.self.invariant in
    let none : c.self.inside.idle ≡ 0 = (let g = c.if-self-gt0.false in omega arith) in
    let m = matcher_view v ms c.self.inside.idle c.self.inside.text c.self.inside.signs.items in
    let S = subst (λ (z : MatcherView). MatcherAt z past true) (sym c.self.view_is) s in
    let i = inner v ms go in
    let n = count v ms go in
    let low = more_text m past S none in
    let more : 1 < length ms = omega arith in
    let kept = dropped_signs ms c.leave-else-self-gt0.new.self c.self.inside.signs.items c.drop_level.new.signs.items c.len.result more c.leave-else-self-gt0.ensures.left c.len.ensures c.drop_level.ensures in
    let signed : i.0.signed ≡ true = i.4 ∙ (sym (c.leave-else-self-gt0.ensures.signed i.1 more i.3) ∙ c.if-leave.true) in
    let dropped : Dropped i.0 (length (frames_of v ms) - 1) c.self.inside.signs.items c.drop_level.new.signs.items =
    inl (signed, subst (λ (z : ℕ). c.drop_level.new.signs.items ≡ filter (λ (s : Sign). not (eqb s.level (z - 1))) c.self.inside.signs.items) (sym n) kept) in
    subst (λ (z : ℕ). MatcherAt (matcher_view c.leave.new.self c.leave-else-self-gt0.new.self z false c.drop_level.new.signs.items) past false) (sym none)
    (outer_stands v c.leave.new.self ms c.leave-else-self-gt0.new.self c.drop_level.new.signs.items past c.leave.ensures c.leave-else-self-gt0.ensures.left
    (λ frames taken. subst (λ (z : ℕ). MatcherAt (record { tree = v.tree; names = v.names; frames = frames; idle = z; text = false; signs = c.drop_level.new.signs.items; most_bytes = v.most_bytes }) past false) none
    (frame_text m past S frames i.0 c.drop_level.new.signs.items none taken i.2 dropped)) go)

pub returns-else-leave-clause-text : goal.returns-else-leave-clause-text
returns-else-leave-clause-text c = λ past s.
    let v = c.self.inside.states in
    let ms = c.self.inside.frames in
    let go = c.self.invariant in
    let none : c.self.inside.idle ≡ 0 = (let g = c.if-self-gt0.false in omega arith) in
    let m = matcher_view v ms c.self.inside.idle c.self.inside.text c.self.inside.signs.items in
    let S = subst (λ (z : MatcherView). MatcherAt z past true) (sym c.self.view_is) s in
    let i = inner v ms go in
    let n = count v ms go in
    let low = more_text m past S none in
    let more : 1 < length ms = omega arith in
    let signed : i.0.signed ≡ false = i.4 ∙ (sym (c.leave-else-self-gt0.ensures.signed i.1 more i.3) ∙ c.if-leave.false) in
    subst (λ (z : ℕ). MatcherAt (matcher_view c.leave.new.self c.leave-else-self-gt0.new.self z false c.self.inside.signs.items) past false) (sym none)
    (outer_stands v c.leave.new.self ms c.leave-else-self-gt0.new.self c.self.inside.signs.items past c.leave.ensures c.leave-else-self-gt0.ensures.left
    (λ frames taken. subst (λ (z : ℕ). MatcherAt (record { tree = v.tree; names = v.names; frames = frames; idle = z; text = false; signs = c.self.inside.signs.items; most_bytes = v.most_bytes }) past false) none
    (frame_text m past S frames i.0 c.self.inside.signs.items none taken i.2 (inr (signed, refl)))) go)

pub returns-then-leave-clause-element : goal.returns-then-leave-clause-element
returns-then-leave-clause-element c = λ past p d k s at.
    let v = c.self.inside.states in
    let ms = c.self.inside.frames in
    let go = c.self.invariant in
    let none : c.self.inside.idle ≡ 0 = (let g = c.if-self-gt0.false in omega arith) in
    let m = matcher_view v ms c.self.inside.idle c.self.inside.text c.self.inside.signs.items in
    let S = subst (λ (z : MatcherView). MatcherAt z past false) (sym c.self.view_is) s in
    let i = inner v ms go in
    let n = count v ms go in
    let low = more_element m past p d k S at none in
    let more : 1 < length ms = omega arith in
    let kept = dropped_signs ms c.leave-else-self-gt0.new.self c.self.inside.signs.items c.drop_level.new.signs.items c.len.result more c.leave-else-self-gt0.ensures.left c.len.ensures c.drop_level.ensures in
    let signed : i.0.signed ≡ true = i.4 ∙ (sym (c.leave-else-self-gt0.ensures.signed i.1 more i.3) ∙ c.if-leave.true) in
    let dropped : Dropped i.0 (length (frames_of v ms) - 1) c.self.inside.signs.items c.drop_level.new.signs.items =
    inl (signed, subst (λ (z : ℕ). c.drop_level.new.signs.items ≡ filter (λ (s : Sign). not (eqb s.level (z - 1))) c.self.inside.signs.items) (sym n) kept) in
    subst (λ (z : ℕ). MatcherAt (matcher_view c.leave.new.self c.leave-else-self-gt0.new.self z false c.drop_level.new.signs.items) (past_grown End past) false) (sym none)
    (outer_stands v c.leave.new.self ms c.leave-else-self-gt0.new.self c.drop_level.new.signs.items (past_grown End past) c.leave.ensures c.leave-else-self-gt0.ensures.left
    (λ frames taken. subst (λ (z : ℕ). MatcherAt (record { tree = v.tree; names = v.names; frames = frames; idle = z; text = false; signs = c.drop_level.new.signs.items; most_bytes = v.most_bytes }) (past_grown End past) false) none
    (frame_element m past p d k S at frames i.0 c.drop_level.new.signs.items none taken i.2 dropped)) go)

pub returns-else-leave-clause-element : goal.returns-else-leave-clause-element
returns-else-leave-clause-element c = λ past p d k s at.
    let v = c.self.inside.states in
    let ms = c.self.inside.frames in
    let go = c.self.invariant in
    let none : c.self.inside.idle ≡ 0 = (let g = c.if-self-gt0.false in omega arith) in
    let m = matcher_view v ms c.self.inside.idle c.self.inside.text c.self.inside.signs.items in
    let S = subst (λ (z : MatcherView). MatcherAt z past false) (sym c.self.view_is) s in
    let i = inner v ms go in
    let n = count v ms go in
    let low = more_element m past p d k S at none in
    let more : 1 < length ms = omega arith in
    let signed : i.0.signed ≡ false = i.4 ∙ (sym (c.leave-else-self-gt0.ensures.signed i.1 more i.3) ∙ c.if-leave.false) in
    subst (λ (z : ℕ). MatcherAt (matcher_view c.leave.new.self c.leave-else-self-gt0.new.self z false c.self.inside.signs.items) (past_grown End past) false) (sym none)
    (outer_stands v c.leave.new.self ms c.leave-else-self-gt0.new.self c.self.inside.signs.items (past_grown End past) c.leave.ensures c.leave-else-self-gt0.ensures.left
    (λ frames taken. subst (λ (z : ℕ). MatcherAt (record { tree = v.tree; names = v.names; frames = frames; idle = z; text = false; signs = c.self.inside.signs.items; most_bytes = v.most_bytes }) (past_grown End past) false) none
    (frame_element m past p d k S at frames i.0 c.self.inside.signs.items none taken i.2 (inr (signed, refl)))) go)
