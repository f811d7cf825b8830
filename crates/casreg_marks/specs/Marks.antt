-- The text of a record, line by line. The marks are read oldest first.
use Rattle.std.specs.Prelude.{ℕ, if◌then◌else◌, List, [], ◌++◌, length, codes, decimal}
use Rattle.std.specs.List.{filter, flat_map}
use Rattle.cas_record.specs.declared.mark.Mark.{Mark}
use Rattle.cas_audit.specs.Spelling.Printing.{has_text, mark_text}

-- the marks that a line can spell
abbrev pub with_text : List Mark → List Mark
with_text marks = filter has_text marks

-- the first line of the text, which says how many marks follow
abbrev pub count_line : ℕ → List ℕ
count_line count = codes "record " ++ decimal count ++ codes "\n"

-- the line of a mark; nothing where no line can spell it
abbrev pub mark_line : Mark → List ℕ
mark_line mark = if has_text mark then mark_text mark ++ codes "\n" else []

-- the text of these marks
abbrev pub record_text : List Mark → List ℕ
record_text marks = count_line (length marks) ++ flat_map mark_line marks
