-- The system's reason for a failed read or write, or a file that can't be opened.
use Rattle.std.specs.Prelude.{◌++◌, ℕ, List, Option, Some, None, codes}
use Rattle.std.specs.declared.io.ErrorKind.{ErrorKind}
use Rattle.std.specs.declared.io.ErrorKind.TheVariants as kind
use Rattle.omega_io.specs.declared.reason.Reason.{Reason}
use Rattle.omega_io.specs.declared.reason.Reason.TheVariants.{BrokenPipe, FileTooLarge, FilesystemLoop}
use Rattle.omega_io.specs.declared.reason.Reason.TheVariants.{Interrupted, InvalidFilename, IsADirectory}
use Rattle.omega_io.specs.declared.reason.Reason.TheVariants.{NotADirectory, NotFound, PermissionDenied}
use Rattle.omega_io.specs.declared.reason.Reason.TheVariants.{QuotaExceeded, ReadOnlyFilesystem, StorageFull}
use Rattle.omega_io.specs.declared.reason.Reason.TheVariants.{TimedOut}

-- the reason of an error of this kind, if it has a name
abbrev pub reason_of : ErrorKind → Option Reason
reason_of kind.NotFound = Some NotFound
reason_of kind.PermissionDenied = Some PermissionDenied
reason_of kind.NotADirectory = Some NotADirectory
reason_of kind.IsADirectory = Some IsADirectory
reason_of kind.FilesystemLoop = Some FilesystemLoop
reason_of kind.InvalidFilename = Some InvalidFilename
reason_of kind.StorageFull = Some StorageFull
reason_of kind.QuotaExceeded = Some QuotaExceeded
reason_of kind.FileTooLarge = Some FileTooLarge
reason_of kind.ReadOnlyFilesystem = Some ReadOnlyFilesystem
reason_of kind.BrokenPipe = Some BrokenPipe
reason_of kind.TimedOut = Some TimedOut
reason_of kind.Interrupted = Some Interrupted
reason_of _ = None

-- the reason in words
abbrev pub reason_text : Reason → List ℕ
reason_text NotFound = codes "no such file or directory"
reason_text PermissionDenied = codes "permission denied"
reason_text NotADirectory = codes "not a directory"
reason_text IsADirectory = codes "is a directory"
reason_text FilesystemLoop = codes "too many levels of symbolic links"
reason_text InvalidFilename = codes "file name too long"
reason_text StorageFull = codes "no space left on device"
reason_text QuotaExceeded = codes "disk quota exceeded"
reason_text FileTooLarge = codes "file too large"
reason_text ReadOnlyFilesystem = codes "read-only file system"
reason_text BrokenPipe = codes "broken pipe"
reason_text TimedOut = codes "connection timed out"
reason_text Interrupted = codes "interrupted system call"

-- the end of a line that says what failed: the reason after a colon, if there is one
abbrev pub because : Option Reason → List ℕ
because None = codes "\n"
because (Some reason) = codes ": " ++ (reason_text reason ++ codes "\n")
