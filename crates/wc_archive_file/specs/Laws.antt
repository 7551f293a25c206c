-- Laws of archive files.
use Rattle.std.specs.Prelude.{◌≡◌, ℕ, List}
use Rattle.wc_archive_file.specs.declared.archive.Archive.{Archive}
use Rattle.wc_archive_file.specs.Archives.{IsArchive}

-- Bytes are those of one archive at most.
abbrev pub OneArchive : Type 0
OneArchive = (bytes : List ℕ) (a b : Archive) → IsArchive bytes a → IsArchive bytes b → a ≡ b
