-- Statuses and their phrases (RFC 9110, section 15), and what is said of a refusal.
use Rattle.std.specs.Prelude.{ℕ, List, codes}
use Rattle.http_messages.specs.declared.request_refusal.Refusal.{Refusal}
use Rattle.http_messages.specs.declared.request_refusal.Refusal.TheVariants as refusal
use Rattle.http_messages.specs.declared.status.Status.{Status}
use Rattle.http_messages.specs.declared.status.Status.TheVariants as status

-- a status in digits (RFC 9110, section 15)
abbrev pub code_of : Status → ℕ
code_of status.Okay = 200
code_of status.Accepted = 202
code_of status.BadRequest = 400
code_of status.Forbidden = 403
code_of status.NotFound = 404
code_of status.MethodNotAllowed = 405
code_of status.NotAcceptable = 406
code_of status.LengthRequired = 411
code_of status.PayloadTooLarge = 413
code_of status.UnsupportedMediaType = 415
code_of status.UnprocessableEntity = 422
code_of status.HeadTooLarge = 431
code_of status.InternalServerError = 500
code_of status.NotImplemented = 501
code_of status.ServiceUnavailable = 503

-- the phrase of a status (RFC 9110, section 15)
abbrev pub phrase_of : Status → List ℕ
phrase_of status.Okay = codes "OK"
phrase_of status.Accepted = codes "Accepted"
phrase_of status.BadRequest = codes "Bad Request"
phrase_of status.Forbidden = codes "Forbidden"
phrase_of status.NotFound = codes "Not Found"
phrase_of status.MethodNotAllowed = codes "Method Not Allowed"
phrase_of status.NotAcceptable = codes "Not Acceptable"
phrase_of status.LengthRequired = codes "Length Required"
phrase_of status.PayloadTooLarge = codes "Payload Too Large"
phrase_of status.UnsupportedMediaType = codes "Unsupported Media Type"
phrase_of status.UnprocessableEntity = codes "Unprocessable Entity"
phrase_of status.HeadTooLarge = codes "Request Header Fields Too Large"
phrase_of status.InternalServerError = codes "Internal Server Error"
phrase_of status.NotImplemented = codes "Not Implemented"
phrase_of status.ServiceUnavailable = codes "Service Unavailable"

-- the status of a refusal
abbrev pub refusal_status : Refusal → Status
refusal_status refusal.BadRequest = status.BadRequest
refusal_status refusal.LengthRequired = status.LengthRequired
refusal_status refusal.BodyTooLarge = status.PayloadTooLarge
refusal_status refusal.HeadTooLarge = status.HeadTooLarge
refusal_status refusal.TransferCoding = status.NotImplemented

-- the title of a refusal
abbrev pub refusal_title : Refusal → List ℕ
refusal_title refusal.BadRequest = codes "bad request"
refusal_title refusal.LengthRequired = codes "length required"
refusal_title refusal.BodyTooLarge = codes "body too large"
refusal_title refusal.HeadTooLarge = codes "head too large"
refusal_title refusal.TransferCoding = codes "transfer coding"
