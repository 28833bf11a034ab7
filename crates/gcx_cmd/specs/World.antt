-- What is seen outside: the files, the two sinks and the lent store (this project's).
use Rattle.std.specs.Prelude.{◌≡◌, ℕ}
use Rattle.gcx_io.specs.FileShelf.{FileShelfState, file_shelf_seen}
use Rattle.gcx_io.specs.StdSink.{StreamState, stream_seen}
use Rattle.gcx_io.specs.Views.{ShelfView, SinkView}
use Rattle.node_store.specs.Rows.{Rows}
use Rattle.buf_tree.specs.Row.{Row}
use Rattle.run_words.specs.Writing.{Sinks}

-- the lent store: its rows, and the most that it ever had
pub record StoreView : Type 0 where
  pub rows : Rows Row
  pub most : ℕ

pub record World : Type 0 where
  pub shelf : ShelfView
  pub out : SinkView
  pub err : SinkView
  pub store : StoreView

abbrev pub world : ShelfView → (out err : SinkView) → Rows Row → (most : ℕ) → World
world s o e rows most = record { shelf = s; out = o; err = e; store = record { rows = rows; most = most } }

-- what is seen outside, where the store isn't looked at
abbrev pub beside : ShelfView → (out err : SinkView) → StoreView → World
beside s o e store = record { shelf = s; out = o; err = e; store = store }

abbrev pub both_sinks : (out err : SinkView) → Sinks
both_sinks o e = record { out = o; err = e }

abbrev pub sinks_of : World → Sinks
sinks_of a = both_sinks a.out a.err

-- nothing was written, and the store is as it was
pub record Untouched (a b : World) : Type 0 where
  pub out : b.out ≡ a.out
  pub err : b.err ≡ a.err
  pub store : b.store ≡ a.store

-- nothing happened to the files, the diagnoses and the store
pub record WritesAlone (a b : World) : Type 0 where
  pub shelf : b.shelf ≡ a.shelf
  pub err : b.err ≡ a.err
  pub store : b.store ≡ a.store

-- This relates what is seen of the lent things before and after: of the files, the two sinks and the store.
abbrev pub IsSeen : {F O E N : Type 0} → (World → World → Type 0) → (F → ShelfView) → (O → SinkView) → (E → SinkView) → (N → Rows Row) → (N → ℕ)
    → (files : F) → (out : O) → (err : E) → (nodes : N) → (files_now : F) → (out_now : O) → (err_now : E) → (nodes_now : N) → Type 0
IsSeen relates shelf taken told rows most f o e n f1 o1 e1 n1 =
    relates (world (shelf f) (taken o) (told e) (rows n) (most n)) (world (shelf f1) (taken o1) (told e1) (rows n1) (most n1))

-- And it relates them whatever the diagnoses took, to which nothing is lent.
abbrev pub IsSeenBeside : {F O N : Type 0} → (World → World → Type 0) → (F → ShelfView) → (O → SinkView) → (N → Rows Row) → (N → ℕ)
    → (files : F) → (out : O) → (nodes : N) → (files_now : F) → (out_now : O) → (nodes_now : N) → Type 0
IsSeenBeside relates shelf taken rows most f o n f1 o1 n1 = (err : SinkView)
    → relates (world (shelf f) (taken o) err (rows n) (most n)) (world (shelf f1) (taken o1) err (rows n1) (most n1))

-- what is seen of the real files, the standard streams and a store
abbrev pub real_world : FileShelfState → (out err : StreamState) → Rows Row → (most : ℕ) → World
real_world files out err rows most = world (file_shelf_seen files) (stream_seen out) (stream_seen err) rows most
