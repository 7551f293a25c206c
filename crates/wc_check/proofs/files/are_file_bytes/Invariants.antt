use Rattle.std.proofs.Common.{◌≡◌, drop}
use Rattle.std.specs.List.{list_all}
use Rattle.wc_syntax.specs.Findings.{is_file_byte}
use Rattle.wc_check.proofs.files.are_file_bytes.Given as goal

abbrev pub invariant-loop-byte : goal.invariant-loop-byte
invariant-loop-byte l = list_all is_file_byte (drop l.byte-index l.bytes) ≡ list_all is_file_byte l.bytes
