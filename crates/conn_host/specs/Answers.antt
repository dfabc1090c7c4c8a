-- What checks answer, in the words of the rules. Want of memory says nothing.
pub use Rattle.tcl_host.specs.Outcomes.{Finds, Passes}
