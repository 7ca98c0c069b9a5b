-- The bytes of a reply (RESP2), and the texts of the errors.
use Rattle.std.specs.Prelude.{[], ◌∷◌, ◌++◌, length, codes}
use Rattle.std.specs.Fmt.{decimal, signed_decimal}
use Rattle.std.specs.List.{flat_map}
use Rattle.df_model.specs.Values.{Bytes}
use Rattle.df_model.specs.declared.session.BadKind.{BadKind}
use Rattle.df_model.specs.declared.session.BadKind.TheVariants as kinds
use Rattle.df_model.specs.declared.reply.ErrorText.{ErrorText}
use Rattle.df_model.specs.declared.reply.ErrorText.TheVariants as errors
use Rattle.df_model.specs.declared.reply.Reply.{Reply}
use Rattle.df_model.specs.declared.reply.Reply.TheOpen.{Reply-F}
use Rattle.df_model.specs.declared.reply.Reply.TheFolds.{fold-Reply}

abbrev pub crlf : Bytes
crlf = 13 ∷ 10 ∷ []

abbrev pub text_of : ErrorText → Bytes
text_of errors.WrongKind = codes "WRONGTYPE Operation against a key holding the wrong kind of value"
text_of errors.NotInteger = codes "ERR value is not an integer or out of range"
text_of errors.Overflow = codes "ERR increment or decrement would overflow"
text_of errors.HashNotInteger = codes "ERR hash value is not an integer"
text_of errors.NoSuchKey = codes "ERR no such key"
text_of errors.IndexRange = codes "ERR index out of range"
text_of errors.OffsetRange = codes "ERR offset is out of range"
text_of errors.Syntax = codes "ERR syntax error"
text_of (errors.Arity name) = codes "ERR wrong number of arguments for '" ++ name ++ codes "' command"
text_of errors.Unknown = codes "ERR unknown command"
text_of errors.Nested = codes "ERR MULTI calls can not be nested"
text_of errors.ExecAlone = codes "ERR EXEC without MULTI"
text_of errors.DiscardAlone = codes "ERR DISCARD without MULTI"
text_of errors.Aborted = codes "EXECABORT Transaction discarded because of previous errors."
text_of errors.NotInside = codes "ERR command not allowed inside a transaction"
text_of errors.TooQueued = codes "ERR too many queued commands"
text_of errors.TooLong = codes "ERR string exceeds maximum allowed size"
text_of errors.DbIndex = codes "ERR DB index is out of range"
text_of errors.SaveFailed = codes "ERR save failed"
text_of errors.Memory = codes "OOM out of memory"
text_of errors.TooMany = codes "ERR max number of clients reached"

-- one reply, with the bytes of each inner reply in its place
abbrev pub encoding_step : Reply-F Bytes → Bytes
encoding_step (Reply-F.Simple text) = codes "+" ++ text ++ crlf
encoding_step (Reply-F.Error error) = codes "-" ++ text_of error ++ crlf
encoding_step (Reply-F.Int n) = codes ":" ++ signed_decimal n ++ crlf
encoding_step (Reply-F.Bulk bytes) = codes "$" ++ decimal (length bytes) ++ crlf ++ bytes ++ crlf
encoding_step Reply-F.NullBulk = codes "$-1" ++ crlf
encoding_step Reply-F.NullArray = codes "*-1" ++ crlf
encoding_step (Reply-F.Array replies) = codes "*" ++ decimal (length replies.items) ++ crlf ++ flat_map (λ bytes. bytes) replies.items

abbrev pub encoding_of : Reply → Bytes
encoding_of = fold-Reply Bytes encoding_step

-- ---- bad input

abbrev pub bad_text : BadKind → Bytes
bad_text kinds.Start = codes "ERR Protocol error: bad start"
bad_text kinds.Count = codes "ERR Protocol error: bad count"
bad_text kinds.Length = codes "ERR Protocol error: bad length"
bad_text kinds.End = codes "ERR Protocol error: bad end"

-- the last line of a session whose input is bad
abbrev pub protocol_error : BadKind → Bytes
protocol_error kind = codes "-" ++ bad_text kind ++ crlf
