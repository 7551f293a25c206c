-- What a disk in memory holds.
use Rattle.wc_disk.specs.declared.tape.Tape.{Tape}
use Rattle.wc_disk.specs.Volume.{Volume, settled, after_calls}

-- what a list of calls makes of the bytes at the beginning
abbrev pub volume_of : Tape → Volume
volume_of t = after_calls t.calls (settled t.begun)
