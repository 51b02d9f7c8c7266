-- The words that tell what is wrong with a line.
use Rattle.std.specs.Prelude.{ℕ, List, codes}
use Rattle.ot_base.specs.declared.access.AccessFault.{AccessFault}
use Rattle.ot_base.specs.declared.access.AccessFault.TheVariants as access
use Rattle.ot_base.specs.declared.fault.TraceFault.{TraceFault}
use Rattle.ot_base.specs.declared.fault.TraceFault.TheVariants.{Form, Number, Hex, Address}
use Rattle.ot_base.specs.declared.fault.TraceFault.TheVariants.{Unbuilt, NoMemory}

abbrev pub trace_fault_word : TraceFault → List ℕ
trace_fault_word Form = codes "form"
trace_fault_word Number = codes "number"
trace_fault_word Hex = codes "hex"
trace_fault_word Address = codes "address"
trace_fault_word Unbuilt = codes "unbuilt"
trace_fault_word NoMemory = codes "no memory"

abbrev pub access_fault_word : AccessFault → List ℕ
access_fault_word access.Line = codes "list"
access_fault_word access.Many = codes "many"
access_fault_word access.NoMemory = codes "no memory"
