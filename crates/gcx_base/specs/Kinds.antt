-- Kinds of nodes (XQuery 1.0 and XPath 2.0 Data Model, section 6).
use Rattle.std.specs.Prelude.{Bool, true, false}
use Rattle.gcx_base.specs.declared.kind.Kind.{Kind}
use Rattle.gcx_base.specs.declared.kind.Kind.TheVariants.{Document, Element, Text}

abbrev pub is_text : Kind → Bool
is_text Document = false
is_text (Element name) = false
is_text (Text b) = true
