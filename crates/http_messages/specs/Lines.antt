-- The lines of a head (RFC 9112, sections 2, 4 and 5).
use Rattle.std.specs.Prelude.{ℕ, List, [], ◌++◌, codes, decimal, Option, Some, None}
use Rattle.http_messages.specs.declared.status.Status.{Status}
use Rattle.http_messages.specs.Statuses.{code_of, phrase_of}

-- the end of a line
abbrev pub line_end : List ℕ
line_end = codes "\r\n"

-- status-line = HTTP-version SP status-code SP [ reason-phrase ]
abbrev pub status_line : Status → List ℕ
status_line status = codes "HTTP/1.1 " ++ decimal (code_of status) ++ codes " " ++ phrase_of status ++ line_end

-- field-line = field-name ":" OWS field-value
abbrev pub field_line : List ℕ → List ℕ → List ℕ
field_line name value = name ++ codes ": " ++ value ++ line_end

-- the line of a field that has a value
abbrev pub line_if_some : List ℕ → Option (List ℕ) → List ℕ
line_if_some name None = []
line_if_some name (Some value) = field_line name value
