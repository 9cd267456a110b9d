use Rattle.content.specs.Rules.{Body, body_of}
use Rattle.content.specs.declared.stored.StoredContent.{StoredContent}

-- what the numbers of a content say
abbrev pub stored_body : StoredContent → Body
stored_body s = body_of s.timestamp s.reads s.writes
