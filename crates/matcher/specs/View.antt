-- What a contract sees of a matcher (this project's).
use Rattle.std.specs.Prelude.{◌≡◌, ◌<◌, ◌-◌, ◌∷◌, ℕ, Bool, List, [], length, Option, slice_get, refl}
use Rattle.std.specs.Coded.{Coded, code_by, coded×, coded_ℕ, coded_bool, coded_list}
use Rattle.path_states.specs.State.{StateView}
use Rattle.path_states.specs.States.{StatesView}
use Rattle.path_states.specs.declared.paths.PathTree.{PathTree}
use Rattle.matcher.specs.Parts.{NodeMarks, context_code, found_code}
use Rattle.matcher.specs.declared.frames.Context.{Context}
use Rattle.matcher.specs.declared.frames.Found.{Found}
use Rattle.matcher.specs.declared.signs.Sign.{Sign}

-- What a contract sees of an open node: the path states whose paths lead to it, and those that are pending below it; the roles of the whole subtrees in which it lies;
-- those of which it is a context, and those whose first match it is; and whether a statement is signed at it.
pub record FrameView : Type 0 where
  pub active : List ℕ
  pub pending : List ℕ
  pub whole : List ℕ
  pub contexts : List Context
  pub found : List Found
  pub signed : Bool

-- What it sees of a matcher: the path tree of the plan, and the names in order; the frames of the open nodes, that of the document node first, but for the innermost ones where no path leads;
-- the number of those; whether the innermost node is a text; the statements that are signed; and how many bytes of states and moves are remembered at most.
pub record MatcherView : Type 0 where
  pub tree : PathTree
  pub names : List (List ℕ)
  pub frames : List FrameView
  pub idle : ℕ
  pub text : Bool
  pub signs : List Sign
  pub most_bytes : ℕ

abbrev pub frame_code : Coded FrameView
frame_code =
    code_by
    (List ℕ × (List ℕ × (List ℕ × (List Context × (List Found × Bool)))))
    (coded× (coded_list coded_ℕ) (coded× (coded_list coded_ℕ) (coded× (coded_list coded_ℕ) (coded× (coded_list context_code) (coded× (coded_list found_code) coded_bool)))))
    (λ f. (f.active, (f.pending, (f.whole, (f.contexts, (f.found, f.signed))))))
    (λ p. record { active = p.0; pending = p.1.0; whole = p.1.1.0; contexts = p.1.1.1.0; found = p.1.1.1.1.0; signed = p.1.1.1.1.1 })
    (λ _. refl)

abbrev pub code_of_sign : Coded Sign
code_of_sign = code_by (ℕ × (ℕ × ℕ)) (coded× coded_ℕ (coded× coded_ℕ coded_ℕ)) (λ s. (s.role, (s.level, s.steps))) (λ p. record { role = p.0; level = p.1.0; steps = p.1.1 }) (λ _. refl)

abbrev pub matcher_code : Coded PathTree → Coded MatcherView
matcher_code tree =
    code_by
    (PathTree × (List (List ℕ) × (List FrameView × (ℕ × (Bool × (List Sign × ℕ))))))
    (coded× tree (coded× (coded_list (coded_list coded_ℕ)) (coded× (coded_list frame_code) (coded× coded_ℕ (coded× coded_bool (coded× (coded_list code_of_sign) coded_ℕ))))))
    (λ m. (m.tree, (m.names, (m.frames, (m.idle, (m.text, (m.signs, m.most_bytes)))))))
    (λ p. record { tree = p.0; names = p.1.0; frames = p.1.1.0; idle = p.1.1.1.0; text = p.1.1.1.1.0; signs = p.1.1.1.1.1.0; most_bytes = p.1.1.1.1.1.1 })
    (λ _. refl)

-- the frame of a node with this state and these marks
abbrev pub frame_of : StateView → NodeMarks → FrameView
frame_of s m = record { active = s.active; pending = s.pending; whole = s.whole; contexts = m.contexts; found = m.found; signed = m.signed }

abbrev pub frames_with : List StateView → List NodeMarks → List FrameView
frames_with [] ms = []
frames_with (s ∷ ss) [] = []
frames_with (s ∷ ss) (m ∷ ms) = frame_of s m ∷ frames_with ss ms

-- the frames of the nodes with these states and marks
abbrev pub frames_of : StatesView → List NodeMarks → List FrameView
frames_of v marks = frames_with v.states marks

-- there are as many states as marks, and there are some
abbrev pub GoTogether : StatesView → List NodeMarks → Type 0
GoTogether v marks = (length v.states ≡ length marks) × (0 < length marks)

-- what is seen of these parts
abbrev pub matcher_view : StatesView → List NodeMarks → ℕ → Bool → List Sign → MatcherView
matcher_view v marks idle text signs = record { tree = v.tree; names = v.names; frames = frames_of v marks; idle = idle; text = text; signs = signs; most_bytes = v.most_bytes }

-- the frame of the innermost node that has one
abbrev pub innermost_frame : List FrameView → Option FrameView
innermost_frame frames = slice_get frames (length frames - 1)
