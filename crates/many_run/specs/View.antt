-- What contracts see of several plans over one reader (this project's).
use Rattle.std.specs.Prelude.{ℕ, Bool, List, Option}
use Rattle.gcx_model.specs.declared.fault.DocFault.{DocFault}
use Rattle.doc_reader.specs.Standing.{ReaderView}
use Rattle.run_part.specs.View.{PartView}

-- the reader, a part for each plan, how many bytes were fed, what is refused, and whether the input ended
pub record ManyView (C : Type 0) : Type 0 where
  pub reader : ReaderView
  pub parts : List (PartView C)
  pub bytes : ℕ
  pub refused : Option DocFault
  pub ended : Bool
