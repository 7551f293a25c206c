use Rattle.std.proofs.Common.{◌≡◌, ◌++◌, drop}
use Rattle.std.specs.Prelude.{string_bytes, codes}
use Rattle.wc_syntax.specs.Printing.{items, separated, port_text}
use Rattle.wc_syntax.proofs.printing.definitions.put_ports.Given as goal

abbrev pub invariant-loop-port : goal.invariant-loop-port
invariant-loop-port l = string_bytes l.out ++ separated l.first port_text (drop l.port-index l.port-items) ≡ string_bytes l.fn.out ++ codes "(" ++ items port_text l.port-items
