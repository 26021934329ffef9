-- What the caller's numbers mean in document 02's terms.
use Rattle.blif.specs.Limits.{Caller, caller}
use Rattle.importer.specs.declared.caller.Caller as Code

abbrev pub caller_meant : Code.Caller → Caller
caller_meant c = caller c.leaves c.top c.horizon c.table c.level
